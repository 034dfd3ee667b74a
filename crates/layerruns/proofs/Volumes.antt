-- A volume that grows layer by layer: what its first layers hand out does not change, and what a call hands out is what the volume so far has.
use mathlib.Core.Path.{◌≡◌, refl, ap, sym, ◌∙◌}
use mathlib.Core.List.{List, ◌++◌}
use Prim.Native.Nat.{ℕ, suc, ◌+◌, ◌-◌, ◌<◌, ◌≤◌}
use native.Mathlib.Omega.{arith}
use lib.ListN.{length, get_or, drop, get_or-append}
use lib.Seq.{drop-append-le, get_or-drop}
use Rattle.laws.specs.Range.{join_to}
use Rattle.laws.specs.Mesh.{corners_of, flat}
use Rattle.laws.proofs.Ranges.{join_cong, flat_append}
use Rattle.grid.specs.Grid.{Size}
use Rattle.rows.specs.Rows.{zeros_below}
use Rattle.rows.proofs.Window.{over_zeros}
use Rattle.layerstate.specs.State.{layer_size}
use Rattle.layerparts.specs.Layer.{first_sample, Handed, layer_through, last_layer}
use Rattle.layerparts.proofs.Local.{layers_on, layers_rise, layer_local, last_local}
use Rattle.layerruns.specs.Run.{joined}
use Rattle.layerruns.specs.SoFar.{received, both_handed, all_handed, first_layers}

-- lists joined layer by layer
pub handed_cong : (many : ℕ) (f g : ℕ → Handed) → ((z : ℕ) → z < many → f z ≡ g z) → all_handed many f ≡ all_handed many g
unfolding all_handed
handed_cong many f g h =
    let places = join_cong many _ _ (λ z l. ap (λ h. h.places) (h z l)) in
    let edges = join_cong many _ _ (λ z l. ap (λ h. h.edges) (h z l)) in
    let marks = join_cong many _ _ (λ z l. ap (λ h. h.marks) (h z l)) in
    let triangles = join_cong many _ _ (λ z l. ap (λ h. h.triangles) (h z l)) in
    λ i. record { places = places i; edges = edges i; marks = marks i; triangles = triangles i }

pub handed_next : (many : ℕ) (f : ℕ → Handed) → all_handed (suc many) f ≡ both_handed (all_handed many f) (f many)
unfolding all_handed both_handed join_to
handed_next many f = refl

pub received_both : (a b : Handed) → received (both_handed a b) ≡ joined (received a) (received b)
unfolding received both_handed flat
received_both a b i =
    record { places = a.places ++ b.places; edges = a.edges ++ b.edges; marks = a.marks ++ b.marks; corners = flat_append corners_of a.triangles b.triangles i }

module _ (n : Size) (px : 0 < n.nx) (py : 0 < n.ny) (grey : ℕ) where
  -- a layer more leaves what the layers before have
  module _ (samples new : List ℕ) (taken : ℕ) (long : length samples ≡ first_sample n taken) where
    same_before : (s : ℕ) → s < first_sample n taken → get_or (samples ++ new) s 0 ≡ get_or samples s 0
    same_before s l = get_or-append samples new 0 s (omega (arith, long))

    pub first_same : (many : ℕ) → many + 1 ≤ taken → taken ≤ n.nz → first_layers n grey (samples ++ new) many ≡ first_layers n grey samples many
    unfolding first_layers
    first_same many few most =
        handed_cong many _ _
        (λ z l. layer_local n px py z grey (samples ++ new) samples (omega arith) (λ s h k m. same_before s (omega (arith, layers_rise n (z + 2) taken (omega arith)))) (omega arith))

  -- the kept layer and the new one in their places are the volume, there
  module _ (samples : List ℕ) (z : ℕ) where
    abbrev kept : List ℕ
    kept = drop (first_sample n z) samples

    lies : (list : List ℕ) (s : ℕ) → first_sample n z ≤ s → get_or (zeros_below (layer_size n) z list) s 0 ≡ get_or list (s - first_sample n z) 0
    lies list s h = over_zeros (layer_size n) z list (s - first_sample n z) s (omega (arith, layers_on n 0 z))

    dropped : (list : List ℕ) (s : ℕ) → first_sample n z ≤ s → get_or (drop (first_sample n z) list) (s - first_sample n z) 0 ≡ get_or list s 0
    dropped list s h = let at : first_sample n z + (s - first_sample n z) ≡ s = omega arith in get_or-drop (first_sample n z) list (s - first_sample n z) 0 ∙ ap (λ k. get_or list k 0) at

    pub last_same : z < n.nz → last_layer n grey (zeros_below (layer_size n) z kept) z ≡ last_layer n grey samples z
    last_same inside = last_local n px py z grey (zeros_below (layer_size n) z kept) samples inside (λ s h k m. lies kept s h ∙ dropped samples s h)

    pub layer_same : (new : List ℕ) → first_sample n z ≤ length samples → z + 1 < n.nz → layer_through n grey (zeros_below (layer_size n) z (kept ++ new)) z ≡ layer_through n grey (samples ++ new) z
    layer_same new long inside =
        let pair : kept ++ new ≡ drop (first_sample n z) (samples ++ new) = sym (drop-append-le (first_sample n z) samples new long) in
        layer_local n px py z grey (zeros_below (layer_size n) z (kept ++ new)) (samples ++ new) (omega arith)
        (λ s h k m. lies (kept ++ new) s h ∙ ap (λ xs. get_or xs (s - first_sample n z) 0) pair ∙ dropped (samples ++ new) s h)
        inside

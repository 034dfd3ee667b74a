-- Put together and renumbered, what a closed run has handed out is the whole extractor's mesh.
use mathlib.Core.Path.{◌≡◌, refl, ap, ap₂, sym, ◌∙◌}
use mathlib.Core.List.{List, [], ◌++◌, map, append-nil, map-append}
use mathlib.Core.Bool.{Bool, true}
use Prim.Native.Nat.{ℕ, suc, ◌+◌, ◌*◌, ◌-◌, ◌/◌, ◌<◌, ◌≤◌, min}
use native.Mathlib.Omega.{arith}
use lib.ListN.{length, get_or, replicate, length-map}
use borrow.Author.Tests.{eq-eqb, le-ltb}
use Rattle.laws.specs.Range.{join_to, join_box, keep_from}
use Rattle.laws.specs.Mesh.{Triangle, rename, flat}
use Rattle.laws.specs.Room.{laid}
use Rattle.laws.proofs.Ranges.{map_join, flat_append, flat_join}
use Rattle.laws.proofs.Keep.{keep_all, keep_ranges, at_rank}
use Rattle.laws.proofs.Sides.{length_corners, flat_renamed}
use Rattle.grid.specs.Limits.{most_points, most_triangles}
use Rattle.grid.specs.Work.{size}
use Rattle.grid.specs.Grid.{Size, sample_count, axes, edge_count, is_above_grey, crossed, mark}
use Rattle.grid.specs.Point.{point_edges, number, place}
use Rattle.grid.specs.Mode.{cubes}
use Rattle.grid.specs.Mesh.{edge_mesh, mesh}
use Rattle.layerparts.specs.Layer.{first_sample, layer_edges, layer_triangles, handed, layer_through, last_layer}
use Rattle.layerparts.proofs.Local.{layers_on, layers_rise}
use Rattle.extract.specs.Extraction.{Rooms as ExtractRooms, extracted, measured, granted}
use Rattle.layerruns.specs.Run.{Received, Run}
use Rattle.layerruns.specs.SoFar.{received, both_handed, all_handed, first_layers, all_layers, so_far, Stood}
use Rattle.layerruns.specs.Whole.{Whole, leaves}
use Rattle.layerruns.proofs.RunState.{run_stood}

module _ (n : Size) (grey : ℕ) (samples : List ℕ) (some : 0 < n.nz) where
  abbrev above : ℕ → Bool
  above = is_above_grey grey samples

  -- the edges of all layers are all crossed edges, and the triangles those of all cubes
  pub all_edges : join_to n.nz (layer_edges n above) ≡ point_edges axes n above
  unfolding layer_edges point_edges
  all_edges =
      let first : 3 * first_sample n 0 ≡ 0 = omega (arith, layers_on n 0 0) in
      (keep_ranges n.nz (λ z. 3 * first_sample n z) (crossed axes n above) (λ z l. omega (arith, layers_rise n z (z + 1) (omega arith)))).1
      ∙ ap (λ k. keep_from k (edge_count axes n) (crossed axes n above)) first
      ∙ keep_all (edge_count axes n) (crossed axes n above)

  pub all_triangles : join_to (n.nz - 1) (layer_triangles n above) ≡ edge_mesh cubes n above
  unfolding layer_triangles edge_mesh join_box
  all_triangles = refl

  -- the first layers one after the other
  pub firsts : (many : ℕ) → first_layers n grey samples many ≡ handed n grey samples (join_to many (layer_edges n above)) (join_to many (layer_triangles n above))
  unfolding first_layers all_handed layer_through
  firsts many =
      let places = sym (flat_join (place axes n grey samples) many (layer_edges n above)) in
      let marks = sym (map_join (mark axes n) many (layer_edges n above)) in
      λ i. record { places = places i; edges = join_to many (layer_edges n above); marks = marks i; triangles = join_to many (layer_triangles n above) }

  edges_whole : join_to (n.nz - 1) (layer_edges n above) ++ layer_edges n above (n.nz - 1) ≡ point_edges axes n above
  unfolding join_to
  edges_whole =
      let up : suc (n.nz - 1) ≡ n.nz = omega arith in
      ap (λ k. join_to k (layer_edges n above)) up ∙ all_edges

  two_handed : (a b : List ℕ) (ts us : List Triangle) → both_handed (handed n grey samples a ts) (handed n grey samples b us) ≡ handed n grey samples (a ++ b) (ts ++ us)
  unfolding both_handed
  two_handed a b ts us =
      let places = sym (flat_append (place axes n grey samples) a b) in
      let marks = sym (map-append (mark axes n) a b) in
      λ i. record { places = places i; edges = a ++ b; marks = marks i; triangles = ts ++ us }

  pub all_handed_lem : all_layers n grey samples ≡ handed n grey samples (point_edges axes n above) (edge_mesh cubes n above)
  unfolding all_layers last_layer
  all_handed_lem =
      ap (λ h. both_handed h (handed n grey samples (layer_edges n above (n.nz - 1)) [])) (firsts (n.nz - 1))
      ∙ two_handed (join_to (n.nz - 1) (layer_edges n above)) (layer_edges n above (n.nz - 1)) (join_to (n.nz - 1) (layer_triangles n above)) []
      ∙ ap₂ (handed n grey samples) edges_whole (append-nil (join_to (n.nz - 1) (layer_triangles n above)) ∙ all_triangles)

-- a closed run
module _ {nx ny nz grey taken : ℕ} {samples state : List ℕ} {got : Received} (run : Run nx ny nz grey taken samples true state got) where
  abbrev size_of : Size
  size_of = size nx ny nz

  abbrev is_above_lem : ℕ → Bool
  is_above_lem = is_above_grey grey samples

  stood : Stood size_of grey taken samples true state got
  stood = run_stood nx ny nz grey run

  got_all : got ≡ received (handed size_of grey samples (point_edges axes size_of is_above_lem) (edge_mesh cubes size_of is_above_lem))
  unfolding so_far
  got_all = stood.got_is ∙ ap received (all_handed_lem size_of grey samples (omega (arith, stood.fit.least_z)))

  -- the points are the mesh's, in their order, with their places and marks, and the triangles are the mesh's, each corner by its grid edge
  pub put_together : Whole size_of grey samples got
  unfolding received
  put_together =
      record {
        volume = stood.whole ∙ ap (first_sample size_of) (stood.ended refl);
        edges = ap (λ g. g.edges) got_all;
        places = ap (λ g. g.places) got_all;
        marks = ap (λ g. g.marks) got_all;
        corners = ap (λ g. g.corners) got_all;
      }

  -- named by the rank of its edge, each corner is its point's number in the mesh
  pub renumbered : map (number axes size_of is_above_lem) got.corners ≡ flat (mesh cubes size_of is_above_lem)
  unfolding mesh
  renumbered = ap (map (number axes size_of is_above_lem)) put_together.corners ∙ sym (flat_renamed (number axes size_of is_above_lem) (edge_mesh cubes size_of is_above_lem))

  pub ranked : (e : ℕ) → e < edge_count axes size_of → crossed axes size_of is_above_lem e ≡ true → get_or got.edges (number axes size_of is_above_lem e) 0 ≡ e
  unfolding point_edges number
  ranked e l cut = ap (λ es. get_or es (number axes size_of is_above_lem e) 0) put_together.edges ∙ at_rank (edge_count axes size_of) e (crossed axes size_of is_above_lem) l cut

  -- both are within the bounds
  pub within_bounds : (length (point_edges axes size_of is_above_lem) ≤ most_points) × (length (edge_mesh cubes size_of is_above_lem) ≤ most_triangles)
  unfolding so_far
  within_bounds =
      let all = all_handed_lem size_of grey samples (omega (arith, stood.fit.least_z)) in
      (omega (arith, stood.few_points, ap (λ h. length h.edges) all), omega (arith, stood.few_triangles, ap (λ h. length h.triangles) all))

  told : (r : ExtractRooms) → length got.corners / 3 ≡ length (mesh cubes size_of is_above_lem) → leaves size_of grey samples got r ≡ granted cubes size_of grey samples r
  unfolding leaves granted
  told r third =
      let w = put_together in
      λ i.
      record {
        number = 0;
        point_count = length (w.edges i);
        triangle_count = third i;
        rooms =
            record {
              points = laid (w.places i) r.points;
              edges = laid (w.edges i) r.edges;
              marks = laid (w.marks i) r.marks;
              triangles = laid (renumbered i) r.triangles;
              work = replicate (length r.work) 0;
            };
      }

  -- and the whole extractor, with rooms that hold them, is granted and leaves exactly that
  pub extractor_leaves : (r : ExtractRooms) → length r.work ≡ edge_count axes size_of → length got.edges ≤ min (length r.points / 3) (min (length r.edges) (length r.marks))
      → length got.corners ≤ length r.triangles → extracted cubes nx ny nz grey samples r ≡ leaves size_of grey samples got r
  unfolding extracted measured granted leaves mesh
  extractor_leaves r work fits-points fits-triangles =
      let w = put_together in
      let bounds = within_bounds in
      let found = point_edges axes size_of is_above_lem in
      let made = edge_mesh cubes size_of is_above_lem in
      let many = ap length w.edges in
      let long : length got.corners ≡ 3 * length made = ap length w.corners ∙ length_corners made in
      let renamed : length (mesh cubes size_of is_above_lem) ≡ length made = length-map made (rename (number axes size_of is_above_lem)) in
      rw (
        stood.sided,
        eq-eqb (length samples) (sample_count size_of) w.volume,
        eq-eqb (length r.work) (edge_count axes size_of) work,
        le-ltb (min most_points (min (length r.points / 3) (min (length r.edges) (length r.marks)))) (length found) (omega (arith, bounds.0, many, fits-points)),
        le-ltb (min most_triangles (length r.triangles / 3)) (length (mesh cubes size_of is_above_lem)) (omega (arith, bounds.1, renamed, long, fits-triangles)),
      )
      (sym (told r (omega (arith, long, renamed))))

-- `triangles::write` meets its contract. The loop's invariant: the layers passed are written.
use mathlib.Core.Path.{◌≡◌, subst}
use mathlib.Core.List.{List}
use Prim.Native.Nat.{ℕ, ◌-◌}
use native.Mathlib.Omega.{arith}
use Rattle.laws.specs.Range.{join_to}
use Rattle.laws.proofs.Ranges.{join_zero, join_next, join_room}
use Rattle.rows.proofs.Stretches.{whole_ready}
use Rattle.triangles.specs.Names.{layer_names}
use Rattle.triangles.specs.Walk.{Written}
use Rattle.triangles.proofs.Names.{written_none, written_on, written_room}
use Rattle.triangles.proofs.Named.{edge_nameable, grid_length, grid_laid}
use Rattle.triangles.proofs.write.Goals as goal

pub loop-z-init : goal.loop-z-init
loop-z-init c =
    let a = c.args in
    rw (join_zero (layer_names c.edge_offsets-offsets.result a.names.now a.sides a.masks.now)) (written_none _ _)

pub write_layer-to-requires : goal.write_layer-to-requires
write_layer-to-requires c =
    let a = c.args in
    let l = c.loop-z in
    let offsets = c.edge_offsets-offsets.result in
    let layer : ℕ → List ℕ = layer_names offsets a.names.now a.sides a.masks.now in
    let all = grid_length a.sides a.masks.now a.names.now offsets c.edge_offsets-offsets.ensures in
    record {
      read = record { rows = c.rows-rows.ensures; counts = c.counts-counts.ensures };
      ready = whole_ready a.sides a.masks.now c.requires.whole l.z (omega arith);
      z_bound = omega arith;
      found_in = c.requires.found_cubes l.z (omega arith);
      layer_room = record {
        named = λ x y e hx hy h.
            edge_nameable a.sides a.masks.now a.names.now offsets c.edge_offsets-offsets.ensures c.requires.whole.fit c.requires.names_fit x y l.z e hx hy (omega arith) h;
        holds = written_room (join_to l.z layer) _ _ l.invariant (join_room l.z (a.sides.nz - 1) layer (omega arith)) (omega (arith, all, c.requires.masks_in_bounds));
      };
    }

pub loop-z-preserved : goal.loop-z-preserved
loop-z-preserved c =
    let a = c.args in
    let l = c.loop-z in
    let layer : ℕ → List ℕ = layer_names c.edge_offsets-offsets.result a.names.now a.sides a.masks.now in
    rw (join_next l.z layer) (written_on (join_to l.z layer) (layer l.z) l.invariant c.write_layer-to.ensures)

pub returns : goal.returns
returns c =
    let a = c.args in
    let l = c.loop-z in
    let offsets = c.edge_offsets-offsets.result in
    let last : l.z ≡ a.sides.nz - 1 = omega arith in
    grid_laid a.sides a.masks.now a.names.now offsets c.edge_offsets-offsets.ensures
    (subst (λ n. Written a.triangles.now l.triangles 0 (join_to n (layer_names offsets a.names.now a.sides a.masks.now)) l.to) last l.invariant)
    c.requires.masks_in_bounds

-- `layerparts::hand_triangles` meets its contract.
use mathlib.Core.Path.{◌≡◌, refl, ap, ◌∙◌}
use mathlib.Core.List.{List, [], map}
use Prim.Native.Nat.{ℕ, ◌*◌}
use native.Mathlib.Omega.{arith}
use lib.ListN.{length}
use Rattle.laws.specs.Room.{laid}
use Rattle.laws.specs.Mesh.{flat}
use Rattle.laws.proofs.Sides.{length_corners}
use Rattle.laws.proofs.Writes.{sets_front}
use Rattle.cube.specs.Cube.{cube_edges}
use Rattle.rows.specs.declared.Sides.{Sides}
use Rattle.rows.specs.Rows.{size_of, words_above}
use Rattle.cuberows.proofs.Found.{none_owed}
use Rattle.triangles.specs.Names.{edge_offset, layer_names}
use Rattle.triangles.proofs.Named.{edge_nameable}
use Rattle.layerstate.proofs.Kept.{layer_most}
use Rattle.layerparts.specs.Layer.{layer_triangles}
use Rattle.layerparts.specs.Parts.{triangle_count}
use Rattle.layerparts.proofs.Counted.{triangles_most}
use Rattle.layerparts.proofs.Said.{layer_numbers}
use Rattle.layerparts.proofs.hand_triangles.Goals as goal

-- as many numbers are written as the layer's triangles have
long : (sides : Sides) (masks : List ℕ) (offsets : List ℕ) → offsets ≡ map (edge_offset sides.nx sides.ny) cube_edges → length (layer_names offsets [] sides masks sides.below) ≡ 3 * triangle_count sides masks
unfolding triangle_count
long sides masks offsets right = ap length (layer_numbers sides masks offsets right sides.below) ∙ length_corners (layer_triangles (size_of sides) (words_above sides masks) sides.below)

pub write_layer-end-requires : goal.write_layer-end-requires
write_layer-end-requires c =
    let a = c.args in record {
      read = record { rows = c.rows-rows.ensures; counts = c.counts-counts.ensures };
      ready = c.requires.ready;
      z_bound = c.requires.below_bound;
      found_in = none_owed (size_of a.sides) (words_above a.sides a.masks.now) a.sides.below;
      layer_room = record {
        named = λ x y k hx hy h.
            edge_nameable a.sides a.masks.now [] c.edge_offsets-offsets.result c.edge_offsets-offsets.ensures c.requires.ready.fit (λ some. absurd (some refl)) x y a.sides.below k hx hy
            c.requires.below_bound
            h;
        holds = omega (arith, long a.sides a.masks.now c.edge_offsets-offsets.result c.edge_offsets-offsets.ensures, c.requires.masks_in_bounds);
      };
    }

pub overflow_cast-result : goal.overflow_cast-result
unfolding triangle_count
overflow_cast-result c =
    let a = c.args in
    omega (arith, c.write_layer-end.ensures.end, long a.sides a.masks.now c.edge_offsets-offsets.result c.edge_offsets-offsets.ensures, triangles_most (size_of a.sides) (words_above a.sides a.masks.now) a.sides.below, layer_most c.requires.ready.fit)

pub returns : goal.returns
returns c =
    let a = c.args in
    let offsets = c.edge_offsets-offsets in
    let count = long a.sides a.masks.now offsets.result offsets.ensures in record {
      counted = omega (arith, c.write_layer-end.ensures.end, count);
      laid = c.write_layer-end.ensures.room ∙ sets_front a.triangles.now _ (omega (arith, count, c.requires.masks_in_bounds)) ∙ ap (λ xs. laid xs a.triangles.now) (layer_numbers a.sides a.masks.now offsets.result offsets.ensures a.sides.below);
    }

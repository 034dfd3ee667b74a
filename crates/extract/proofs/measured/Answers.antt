-- `extract::measured` meets its contract: the three ways out.
use mathlib.Core.Path.{◌≡◌, ap, sym, ◌∙◌}
use mathlib.Core.List.{map, flat_map}
use Prim.Native.Nat.{◌*◌, ◌/◌, min}
use mathlib.Core.Bool.{false}
use native.Mathlib.Omega.{arith}
use lib.Dec.{ltb}
use lib.ListN.{length, replicate}
use Rattle.laws.specs.Room.{laid}
use Rattle.laws.specs.Mesh.{flat}
use Rattle.grid.specs.Limits.{most_points}
use Rattle.grid.specs.Grid.{axes, is_above_grey, mark}
use Rattle.grid.specs.Point.{point_edges, place}
use Rattle.grid.specs.Mode.{cubes}
use Rattle.grid.specs.Mesh.{edge_mesh}
use Rattle.grid.specs.Work.{size, name_of, Numbered}
use Rattle.grid.proofs.Edges.{cubes_sides_cut}
use Rattle.grid.proofs.Named.{mesh_named}
use Rattle.masks.specs.Masks.{mask_above}
use Rattle.masks.proofs.Above.{told_agrees}
use Rattle.rows.specs.Rows.{Whole, size_of, words_above}
use Rattle.rows.proofs.Stretches.{words_most, whole_of, of_whole, for_whole}
use Rattle.cuberows.specs.Cubes.{FoundCubes}
use Rattle.extract.specs.Extraction.{Rooms}
use Rattle.extract.specs.Promise.{rooms}
use Rattle.extract.proofs.Ways.{found_is, too_many_points, too_many_triangles, all_granted}
use Rattle.extract.proofs.measured.Goals as goal
use Rattle.extract.proofs.measured.Goals.{After-exceeds, After-exceeds-2, After-fill, After-number-numbered, After-count-made, Start}

-- the rooms as they were lent
abbrev lent : Start → Rooms
lent s =
    rooms s.args.points.now s.args.edges.now s.args.marks.now s.args.triangles.now s.args.work.now

-- all rows have their words, neighbouring words agree, and words of found cubes that are lent are right for them
whole : (c : After-fill) → Whole c.new-sides.result c.fill.new.masks
whole c =
    let a = c.args in
    whole_of a.nx a.ny a.nz c.new-sides.result c.new-sides.ensures c.fill.new.masks c.requires.sides_fit
    (omega (arith, c.fill.auto.masks, words_most a.nx a.ny a.nz c.requires.sides_fit))
    (told_agrees a.nx (a.ny * a.nz) (is_above_grey a.grey a.samples.now) _ c.requires.sides_fit.least_x c.fill.ensures)

found_right : (c : After-fill) → FoundCubes (size_of c.new-sides.result) (words_above c.new-sides.result c.fill.new.masks) c.args.found.now
found_right c =
    let a = c.args in
    for_whole a.nx a.ny a.nz c.new-sides.result c.new-sides.ensures c.fill.new.masks (λ n above. FoundCubes n above a.found.now)
    (found_is a.nx a.ny a.nz a.grey a.samples.now c.fill.new.masks c.requires.sides_fit c.fill.ensures a.found.now c.requires.found_cubes)

-- what was counted and numbered, by the numbers of the sides
counted : (c : After-number-numbered) → c.number-numbered.result ≡ length (point_edges axes (size c.args.nx c.args.ny c.args.nz) (mask_above c.args.nx c.fill.new.masks))
counted c =
    let a = c.args in
    of_whole a.nx a.ny a.nz c.new-sides.result c.new-sides.ensures c.fill.new.masks (λ n above. c.number-numbered.result ≡ length (point_edges axes n above)) c.number-numbered.ensures.counted

numbered : (c : After-number-numbered) → Numbered axes (size c.args.nx c.args.ny c.args.nz) (mask_above c.args.nx c.fill.new.masks) c.number-numbered.new.work
numbered c =
    let a = c.args in
    of_whole a.nx a.ny a.nz c.new-sides.result c.new-sides.ensures c.fill.new.masks (λ n above. Numbered axes n above c.number-numbered.new.work) c.number-numbered.ensures.numbered

made : (c : After-count-made) → c.count-made.result ≡ length (edge_mesh cubes (size c.args.nx c.args.ny c.args.nz) (mask_above c.args.nx c.fill.new.masks))
made c =
    let a = c.args in
    of_whole a.nx a.ny a.nz c.new-sides.result c.new-sides.ensures c.fill.new.masks (λ n above. c.count-made.result ≡ length (edge_mesh cubes n above)) c.count-made.ensures

-- the room for points, and the length of the work room, by the definition's words
room_is : (c : After-exceeds) → c.min-room.result ≡ min (length c.args.points.now / 3) (min (length c.args.edges.now) (length c.args.marks.now))
room_is c = c.min-room.ensures ∙ ap (min (length c.args.points.now / 3)) c.min.ensures

work_kept : (c : After-number-numbered) → length c.number-numbered.new.work ≡ length c.args.work.now
work_kept c = c.number-numbered.auto.work

-- points within their rooms
points_fit : (c : After-exceeds-2) → ltb (min most_points c.min-room.result) c.number-numbered.result ≡ false
points_fit c = sym c.exceeds.ensures ∙ c.if-exceeds.false

pub number-numbered-requires-clause-whole : goal.number-numbered-requires-clause-whole
number-numbered-requires-clause-whole c = whole (goal.at.number-numbered-requires-clause-whole c).After-fill

pub count-made-requires-clause-whole : goal.count-made-requires-clause-whole
count-made-requires-clause-whole c = whole (goal.at.count-made-requires-clause-whole c).After-fill

pub count-made-requires-clause-found_cubes : goal.count-made-requires-clause-found_cubes
count-made-requires-clause-found_cubes c = found_right (goal.at.count-made-requires-clause-found_cubes c).After-fill

pub place-requires-clause-whole : goal.place-requires-clause-whole
place-requires-clause-whole c = whole (goal.at.place-requires-clause-whole c).After-fill

pub write-requires-clause-whole : goal.write-requires-clause-whole
write-requires-clause-whole c = whole (goal.at.write-requires-clause-whole c).After-fill

pub write-requires-clause-found_cubes : goal.write-requires-clause-found_cubes
write-requires-clause-found_cubes c = found_right (goal.at.write-requires-clause-found_cubes c).After-fill

pub returns-then-exceeds : goal.returns-then-exceeds
returns-then-exceeds c =
    let a = c.args in
    rw c.refused_later.ensures.answer
    (too_many_points a.nx a.ny a.nz a.grey a.samples.now c.fill.new.masks c.requires.sides_fit c.fill.ensures (lent (goal.at.returns-then-exceeds c).Start)
    c.number-numbered.result
    c.min-room.result
    c.refused_later.new.work
    (counted (goal.at.returns-then-exceeds c).After-number-numbered)
    (room_is (goal.at.returns-then-exceeds c).After-exceeds)
    (sym c.exceeds.ensures ∙ c.if-exceeds.true)
    (c.refused_later.ensures.zero ∙ ap (λ k. replicate k 0) (work_kept (goal.at.returns-then-exceeds c).After-number-numbered)))

pub returns-then-exceeds-2 : goal.returns-then-exceeds-2
returns-then-exceeds-2 c =
    let a = c.args in
    rw c.refused_later-then-exceeds-2.ensures.answer
    (too_many_triangles a.nx a.ny a.nz a.grey a.samples.now c.fill.new.masks c.requires.sides_fit c.fill.ensures (lent (goal.at.returns-then-exceeds-2 c).Start)
    c.number-numbered.result
    c.count-made.result
    c.min-room.result
    c.refused_later-then-exceeds-2.new.work
    (counted (goal.at.returns-then-exceeds-2 c).After-number-numbered)
    (room_is (goal.at.returns-then-exceeds-2 c).After-exceeds)
    (points_fit (goal.at.returns-then-exceeds-2 c).After-exceeds-2)
    (made (goal.at.returns-then-exceeds-2 c).After-count-made)
    (sym c.exceeds-2.ensures ∙ c.if-exceeds-2.true)
    (c.refused_later-then-exceeds-2.ensures.zero ∙ ap (λ k. replicate k 0) (work_kept (goal.at.returns-then-exceeds-2 c).After-number-numbered)))

pub returns : goal.returns
returns c =
    let a = c.args in
    let of = of_whole a.nx a.ny a.nz c.new-sides.result c.new-sides.ensures c.fill.new.masks in
    all_granted a.nx a.ny a.nz a.grey a.samples.now c.fill.new.masks c.requires.sides_fit c.fill.ensures (lent (goal.at.returns c).Start)
    c.number-numbered.result
    c.count-made.result
    c.min-room.result
    (rooms c.place.new.points c.place.new.edges c.place.new.marks c.write.new.triangles c.clear.new.room)
    (counted (goal.at.returns c).After-number-numbered)
    (room_is (goal.at.returns c).After-exceeds)
    (points_fit (goal.at.returns c).After-exceeds-2)
    (made (goal.at.returns c).After-count-made)
    (sym c.exceeds-2.ensures ∙ c.if-exceeds-2.false)
    (of (λ n above. c.place.new.points ≡ laid (flat_map (place axes n a.grey a.samples.now) (point_edges axes n above)) a.points.now) c.place.ensures.places)
    (of (λ n above. c.place.new.edges ≡ laid (point_edges axes n above) a.edges.now) c.place.ensures.edges)
    (of (λ n above. c.place.new.marks ≡ laid (map (mark axes n) (point_edges axes n above)) a.marks.now) c.place.ensures.marks)
    (of (λ n above. c.write.new.triangles ≡ laid (map (name_of c.number-numbered.new.work) (flat (edge_mesh cubes n above))) a.triangles.now) c.write.ensures
    ∙ ap (λ xs. laid xs a.triangles.now)
    (mesh_named cubes cubes_sides_cut (size a.nx a.ny a.nz) (mask_above a.nx c.fill.new.masks) c.number-numbered.new.work (numbered (goal.at.returns c).After-number-numbered)))
    (c.clear.ensures ∙ ap (λ k. replicate k 0) (work_kept (goal.at.returns c).After-number-numbered))

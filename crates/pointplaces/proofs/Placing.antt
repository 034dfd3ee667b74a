-- Steps of the placing: a point more, the edges of a sample, and a run of edges that are not crossed.
use mathlib.Core.Path.{◌≡◌, refl, ap, fun_ext, ◌∙◌}
use mathlib.Core.List.{List, [], ◌∷◌, ◌++◌, map, flat_map, map-append, map-map, map-id}
use mathlib.Core.Bool.{Bool, true, false, cond}
use Prim.Native.Nat.{ℕ, ◌+◌, ◌*◌, ◌-◌, ◌/◌, ◌%◌, ◌<◌, ◌≤◌}
use native.Mathlib.Omega.{arith}
use lib.ListN.{length, length-map, length-append}
use lib.Seq.{sets}
use Rattle.laws.specs.Room.{laid}
use Rattle.laws.proofs.Keep.{keep_all, keep_no, keep_one, keep_on}
use Rattle.laws.proofs.Lists.{flat_map_lem}
use Rattle.laws.proofs.Ranges.{length_flat}
use Rattle.laws.proofs.Writes.{sets_front, flat_sets, map_sets}
use Rattle.grid.specs.Grid.{axes, edge_count, mark, on_face}
use Rattle.grid.specs.Point.{point_edges, place, place_from}
use Rattle.rows.specs.declared.Sides.{Sides}
use Rattle.rows.specs.declared.Cuts.{Cuts}
use Rattle.edgepoints.specs.declared.Point.{Point}
use Rattle.rows.specs.Rows.{size_of, words_above, grid_samples, cut, next_number}
use Rattle.rows.proofs.Busy.{Tested}
use Rattle.edgepoints.specs.EdgePoint.{PointRooms, coordinates, placed_from, with_placed, point_by, point_from, RoomsFor}
use Rattle.pointplaces.specs.Places.{point_of, point_at, crossings, number_past, SamplePlaced, Placed}

-- room for more is room for fewer, and rooms that keep their lengths keep their room
pub room_less : {count many : ℕ} {r : PointRooms} → count ≤ many → RoomsFor many r → RoomsFor count r
room_less h fits = record { points = omega (arith, fits.points); edges = omega (arith, fits.edges); marks = omega (arith, fits.marks) }

pub record SameLengths (before after : PointRooms) : Type 0 where
  pub points : length after.points ≡ length before.points
  pub edges : length after.edges ≡ length before.edges
  pub marks : length after.marks ≡ length before.marks

pub room_kept : {count : ℕ} {before after : PointRooms} → SameLengths before after → RoomsFor count before → RoomsFor count after
room_kept same fits = record { points = omega (arith, fits.points); edges = omega (arith, fits.edges); marks = omega (arith, fits.marks) }

-- no points, and points written after others
written_none : (r : PointRooms) (n : ℕ) → r ≡ placed_from r n []
unfolding placed_from flat_map
written_none r n = refl

written_append : (r : PointRooms) (n next : ℕ) (ps qs : List Point) → next ≡ n + length ps → placed_from (placed_from r n ps) next qs ≡ placed_from r n (ps ++ qs)
unfolding placed_from
written_append r n next ps qs is = λ i. record {
  points = flat_sets 3 coordinates (λ p. refl) r.points n next ps qs is i;
  edges = map_sets (λ p. p.edge) r.edges n next ps qs is i;
  marks = map_sets (λ p. p.mark) r.marks n next ps qs is i;
}

module _ (sides : Sides) (masks : List ℕ) where
  -- how many crossed edges there are up to an edge and from it on, of those up to a later one
  pub crossings_on : (a b c : ℕ) → a ≤ b → b ≤ c → length (crossings sides masks a c) ≡ length (crossings sides masks a b) + length (crossings sides masks b c)
  crossings_on a b c h k = ap length (keep_on a b c (cut sides masks) h k) ∙ length-append (crossings sides masks a b) (crossings sides masks b c)

  pub number_within : (a b c d n m : ℕ) → a ≤ b → b ≤ c → c ≤ d → m ≡ number_past sides masks a b n → number_past sides masks b c m ≤ number_past sides masks a d n
  number_within a b c d n m ab bc cd is = omega (arith, crossings_on a b d ab (omega arith), crossings_on b c d bc cd)

module _ (sides : Sides) (grey : ℕ) (samples masks : List ℕ) where
  abbrev point : ℕ → Point
  point = point_at sides grey samples

  -- one run of edges after another
  pub placed_on : {a b c m n o : ℕ} {r s t : PointRooms} → Placed sides grey samples masks a b m n r s → Placed sides grey samples masks b c n o s t
      → Placed sides grey samples masks a c m o r t
  placed_on {a} {b} {c} {m} {n} {o} {r} {s} {t} one two =
      let first = crossings sides masks a b in
      let then = crossings sides masks b c in
      record {
        rising = omega (arith, one.rising, two.rising);
        counted = omega (arith, one.counted, two.counted, crossings_on sides masks a b c one.rising two.rising);
        placed = two.placed
            ∙ ap (λ room. placed_from room n (map point then)) one.placed
            ∙ written_append r m n (map point first) (map point then) (omega (arith, one.counted, length-map first point))
            ∙ ap (placed_from r m) (rw (keep_on a b c (cut sides masks) one.rising two.rising, map-append point first then));
      }

  -- an edge is passed
  edge_passed : (e past n : ℕ) (r : PointRooms) (b : Bool) (p : Point) → past ≡ e + 1 → cut sides masks e ≡ b → p ≡ point e
      → Placed sides grey samples masks e past n (next_number b n) r (with_placed b n p r)
  edge_passed e past n r b p next is here = rw (next, here) (go b is)
    where
      one : (b : Bool) → cut sides masks e ≡ b → crossings sides masks e (e + 1) ≡ cond b (e ∷ []) []
      one b is = keep_one e (cut sides masks) ∙ rw is

      go : (b : Bool) → cut sides masks e ≡ b → Placed sides grey samples masks e (e + 1) n (next_number b n) r (with_placed b n (point e) r)
      go true is = record { rising = omega arith; counted = omega (arith, ap length (one true is)); placed = rw (one true is) }
      go false is = record { rising = omega arith; counted = omega (arith, ap length (one false is)); placed = rw (one false is) (written_none r n) }

  -- a run of edges that are not crossed is passed
  none_passed : (e past n : ℕ) (r : PointRooms) → e ≤ past → ((i : ℕ) → i < past - e → cut sides masks (e + i) ≡ false) → Placed sides grey samples masks e past n n r r
  none_passed e past n r h none =
      let no = keep_no e past (cut sides masks) none in
      record { rising = h; counted = omega (arith, ap length no); placed = rw no (written_none r n) }

  -- no edge is passed
  pub placed_none : (e n : ℕ) (r : PointRooms) → Placed sides grey samples masks e e n n r r
  placed_none e n r = none_passed e e n r (omega arith) (λ i l. absurd (omega arith))

  -- the samples from x up to t are passed, of which no edge is crossed
  pub samples_passed : (first s x t m n : ℕ) (r after : PointRooms) → x ≤ t → Placed sides grey samples masks first (3 * (s + x)) m n r after
      → ((i : ℕ) → i < 3 * (t - x) → cut sides masks (3 * (s + x) + i) ≡ false) → Placed sides grey samples masks first (3 * (s + t)) m n r after
  samples_passed first s x t m n r after h so none =
      placed_on so (none_passed (3 * (s + x)) (3 * (s + t)) n after (omega arith) (λ i l. none i (omega arith)))

  -- the three edges that leave a sample
  point_of_lem : (s axis e : ℕ) → axis < 3 → e ≡ 3 * s + axis → point_of sides grey samples s axis ≡ point e
  unfolding point_at
  point_of_lem s axis e h is =
      let sample : e / 3 ≡ s = omega arith in
      let along : e % 3 ≡ axis = omega arith in
      rw (sample, along)

  pub sample_passed : (s n next : ℕ) (cuts : Cuts) (r after : PointRooms) → Tested sides masks (3 * s) cuts → SamplePlaced sides grey samples s n next cuts r after
      → Placed sides grey samples masks (3 * s) (3 * (s + 1)) n next r after
  sample_passed s n next cuts r after by step =
      let e = 3 * s in
      let past = 3 * (s + 1) in
      let px = point_of_lem s 0 e (omega arith) (omega arith) in
      let py = point_of_lem s 1 (e + 1) (omega arith) (omega arith) in
      let pz = point_of_lem s 2 (e + 2) (omega arith) (omega arith) in
      let two : e + 2 ≡ e + 1 + 1 = omega arith in
      let three : past ≡ e + 2 + 1 = omega arith in
      let x = edge_passed e (e + 1) n r cuts.x _ refl by.along_x px in
      let y = edge_passed (e + 1) (e + 2) _ _ cuts.y _ two by.along_y py in
      let z = edge_passed (e + 2) past _ _ cuts.z _ three by.along_z pz in
      rw (step.counted, step.placed) (placed_on x (placed_on y z))

  -- a point's parts are the definitions' place, edge and mark
  places_of : (es : List ℕ) → flat_map coordinates (map point es) ≡ flat_map (place axes (size_of sides) grey (grid_samples sides samples)) es
  unfolding point_at point_from point_by place place_from
  places_of es = flat_map_lem coordinates point (place axes (size_of sides) grey (grid_samples sides samples)) (λ e. refl) es

  edges_of : (es : List ℕ) → map (λ p. p.edge) (map point es) ≡ es
  unfolding point_at point_from point_by
  edges_of es =
      let same : ◌≡◌ {A = ℕ → ℕ} (λ e. 3 * (e / 3) + e % 3) (λ e. e) = fun_ext (λ e. omega arith) in
      map-map (λ p. p.edge) point es ∙ ap (λ f. map f es) same ∙ map-id es

  marks_of : (es : List ℕ) → map (λ p. p.mark) (map point es) ≡ map (mark axes (size_of sides)) es
  unfolding point_at point_from point_by mark on_face
  marks_of es = map-map (λ p. p.mark) point es

  length_places : (es : List ℕ) → length (flat_map (place axes (size_of sides) grey (grid_samples sides samples)) es) ≡ 3 * length es
  unfolding place
  length_places es = length_flat 3 (place axes (size_of sides) grey (grid_samples sides samples)) (λ e. refl) es

  -- the crossed edges from the first on and up to the last are all
  pub all_crossings : (first past : ℕ) → first ≡ 0 → past ≡ edge_count axes (size_of sides) → crossings sides masks first past ≡ point_edges axes (size_of sides) (words_above sides masks)
  unfolding point_edges
  all_crossings first past none last = rw (none, last) (keep_all (edge_count axes (size_of sides)) (cut sides masks))

  -- where the first point is point 0, the points are laid in the rooms
  module _ (first past next : ℕ) (origin r : PointRooms) (so : Placed sides grey samples masks first past 0 next origin r) (found : List ℕ)
      (are : crossings sides masks first past ≡ found) where
    held : r ≡ placed_from origin 0 (map point found)
    held = so.placed ∙ ap (λ es. placed_from origin 0 (map point es)) are

    pub places_laid : 3 * length found ≤ length origin.points → r.points ≡ laid (flat_map (place axes (size_of sides) grey (grid_samples sides samples)) found) origin.points
    unfolding placed_from
    places_laid fits =
        ap (λ r. r.points) held
        ∙ ap (sets origin.points 0) (places_of found)
        ∙ sets_front origin.points (flat_map (place axes (size_of sides) grey (grid_samples sides samples)) found) (omega (arith, length_places found))

    pub edges_laid : length found ≤ length origin.edges → r.edges ≡ laid found origin.edges
    unfolding placed_from
    edges_laid fits = ap (λ r. r.edges) held ∙ ap (sets origin.edges 0) (edges_of found) ∙ sets_front origin.edges found fits

    pub marks_laid : length found ≤ length origin.marks → r.marks ≡ laid (map (mark axes (size_of sides)) found) origin.marks
    unfolding placed_from
    marks_laid fits =
        ap (λ r. r.marks) held
        ∙ ap (sets origin.marks 0) (marks_of found)
        ∙ sets_front origin.marks (map (mark axes (size_of sides)) found) (omega (arith, length-map found (mark axes (size_of sides))))

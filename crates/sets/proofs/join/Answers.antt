-- `sets::join` meets its contract: two roots are found, and the higher goes under the lower.
use mathlib.Core.Path.{◌≡◌, ◌∙◌}
use mathlib.Core.List.{List}
use Prim.Native.Nat.{ℕ, ◌<◌}
use native.Mathlib.Omega.{arith}
use lib.ListN.{length}
use Rattle.sets.specs.Sets.{Falling, root, SameSets}
use Rattle.sets.proofs.Roots.{root_le, same_then}
use Rattle.sets.proofs.Linked.{link, joined_back}
use Rattle.sets.proofs.join.Goals as goal
use Rattle.sets.proofs.join.Goals.{After-find-second}

-- what the two searches found
record Found (old mid room : List ℕ) (a b first second : ℕ) : Type 0 where
  falls : Falling old
  same : SameSets old room
  a_small : a < length old
  b_small : b < length old
  at_first : first ≡ root old a
  at_second : second ≡ root old b
  first_small : first < length room
  second_small : second < length room

found : (old mid room : List ℕ) (a b first second : ℕ) → Falling old → a < length old → b < length old → first ≡ root old a → SameSets old mid → second ≡ root mid b
    → SameSets mid room → Found old mid room a b first second
found old mid room a b first second falls la lb ea s eb t =
    let u = same_then old mid room s t in
    record {
      falls = falls;
      same = u;
      a_small = la;
      b_small = lb;
      at_first = ea;
      at_second = eb ∙ s.roots b;
      first_small = omega (arith, root_le old falls a, u.long);
      second_small = omega (arith, root_le mid s.falls b, u.long);
    }

-- what they found in this call
both : (c : After-find-second) → Found c.args.room.now c.find-first.new.room c.find-second.new.room c.args.a c.args.b c.find-first.result c.find-second.result
both c =
    let first = c.find-first in
    let second = c.find-second in
    found c.args.room.now first.new.room second.new.room c.args.a c.args.b first.result second.result c.requires.falling c.requires.a_in_bounds.0 c.requires.a_in_bounds.1
    first.ensures.value first.ensures.same_sets second.ensures.value second.ensures.same_sets

pub overflow_cast-room : goal.overflow_cast-room
overflow_cast-room c = let r = both (goal.at.overflow_cast-room c).After-find-second in omega (arith, r.first_small, r.second_small, r.same.long)

pub offset_bounds-room-second : goal.offset_bounds-room-second
offset_bounds-room-second c = let r = both (goal.at.offset_bounds-room-second c).After-find-second in omega (arith, r.first_small, r.second_small, r.same.long)

pub bounds-room-second : goal.bounds-room-second
bounds-room-second c = let r = both (goal.at.bounds-room-second c).After-find-second in omega (arith, r.first_small, r.second_small, r.same.long)

pub overflow_cast-room-else-first-second : goal.overflow_cast-room-else-first-second
overflow_cast-room-else-first-second c = let r = both (goal.at.overflow_cast-room-else-first-second c).After-find-second in omega (arith, r.first_small, r.second_small, r.same.long)

pub offset_bounds-room-first : goal.offset_bounds-room-first
offset_bounds-room-first c = let r = both (goal.at.offset_bounds-room-first c).After-find-second in omega (arith, r.first_small, r.second_small, r.same.long)

pub bounds-room-first : goal.bounds-room-first
bounds-room-first c = let r = both (goal.at.bounds-room-first c).After-find-second in omega (arith, r.first_small, r.second_small, r.same.long)

pub returns-then-first-second : goal.returns-then-first-second
returns-then-first-second c =
    let r = both (goal.at.returns-then-first-second c).After-find-second in
    link c.args.room.now c.find-second.new.room r.falls r.same c.args.a c.args.b r.a_small r.b_small c.find-first.result c.find-second.result r.at_first r.at_second (omega arith)

pub returns-else-first-second : goal.returns-else-first-second
returns-else-first-second c =
    let r = both (goal.at.returns-else-first-second c).After-find-second in
    joined_back c.args.b c.args.a c.args.room.now _ (link c.args.room.now c.find-second.new.room r.falls r.same c.args.b c.args.a r.b_small r.a_small c.find-second.result c.find-first.result r.at_second r.at_first (omega arith))

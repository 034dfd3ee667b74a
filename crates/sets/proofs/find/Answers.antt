-- `sets::find` meets its contract: the sets stay, and the point that was reached is in the set of the point asked for.
use mathlib.Core.Path.{◌≡◌, refl, ap, sym, ◌∙◌, subst}
use mathlib.Core.List.{List}
use Prim.Native.Nat.{ℕ, ◌≤◌}
use native.Mathlib.Omega.{arith}
use lib.ListN.{get_or, set, length-set}
use Rattle.sets.specs.Sets.{parent, root, SameSets}
use Rattle.sets.proofs.Roots.{root_parent, root_fixed, halved, same_then}
use Rattle.sets.proofs.find.Invariants.{Finding}
use Rattle.sets.proofs.find.Goals as goal

-- one turn: p goes under its parent's parent, and that is the next p
turn : (old room : List ℕ) (point p above next p' above' : ℕ) → Finding old room point p above → next ≡ get_or room above 0 → p' ≡ next
    → above' ≡ get_or (set room p next) p' 0 → Finding old (set room p next) point p' above'
turn old room point p above next p' above' f e h l =
    let falls = f.same.falls in
    let up : next ≡ parent room (parent room p) = e ∙ ap (λ q. get_or room q 0) f.here in
    let s : SameSets room (set room p next) = subst (λ (x : ℕ). SameSets room (set room p x)) (sym up) (halved room falls p (omega (arith, f.small, f.long))) in
    let low : p' ≤ p = omega (arith, falls p, falls (parent room p)) in
    record {
      same = same_then old room (set room p next) f.same s;
      small = omega (arith, f.small);
      long = length-set room p next ∙ f.long;
      here = l;
      low = omega (arith, s.falls p');
      reached =
          ap (root old) (h ∙ up)
          ∙ sym (f.same.roots (parent room (parent room p)))
          ∙ root_parent room falls (parent room p)
          ∙ root_parent room falls p
          ∙ f.same.roots p
          ∙ f.reached;
    }

pub loop-above-preserved : goal.loop-above-preserved
loop-above-preserved c =
    let l = c.loop-above in
    turn _ l.room _ l.p l.above _ _ _ l.invariant refl refl refl

pub returns-clause-value : goal.returns-clause-value
returns-clause-value c =
    let l = c.loop-above in
    let top : parent l.room l.p ≡ l.p = sym l.invariant.here ∙ c.loop-above-test.false in
    sym (root_fixed l.room l.invariant.same.falls l.p top) ∙ l.invariant.same.roots l.p ∙ l.invariant.reached

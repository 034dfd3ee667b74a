-- Where two points are in one set exactly when sides lead from one to the other, the ranks of the roots are the numbers of the shells.
use mathlib.Core.Path.{◌≡◌, ap, sym, ◌∙◌}
use mathlib.Core.List.{List}
use mathlib.Core.Bool.{true}
use Prim.Native.Nat.{ℕ, ◌<◌, ◌≤◌}
use native.Mathlib.Decide.{dec_lt}
use native.Mathlib.Omega.{arith}
use lib.ListN.{length, get_or}
use borrow.Author.Tests.{eq-eqb, eqb-true}
use Rattle.laws.specs.Range.{count_to, keep_to}
use Rattle.laws.specs.Values.{list_to}
use Rattle.laws.proofs.Keep.{rank_lt, Ranked, kept_at}
use Rattle.laws.proofs.Values.{length_list, list_at}
use Rattle.mesh.specs.Mesh.{triangles_of}
use Rattle.shellnumbers.specs.Numbering.{number_of, Lowest, Used, Numbering}
use Rattle.sets.specs.Sets.{parent, root, is_root, rank_of, United}
use Rattle.sets.proofs.Leading.{led_same}
use Rattle.sets.proofs.Roots.{root_top, root_fixed, root_twice, root_le}

module _ (triangles old room : List ℕ) (u : United triangles old room) (v : ℕ) (enough : v ≤ length room) where
  abbrev numbers : List ℕ
  numbers = list_to v (rank_of room)

  at_point_lem : (p : ℕ) → p < v → number_of numbers p ≡ rank_of room p
  at_point_lem p l = list_at v p (rank_of room) 0 l

  is_root_lem : (p : ℕ) → parent room p ≡ p → is_root room p ≡ true
  unfolding is_root
  is_root_lem p e = eq-eqb (parent room p) p e

  root_is : (p : ℕ) → is_root room (root room p) ≡ true
  root_is p = is_root_lem (root room p) (root_top room u.falls p)

  -- roots of one rank are one
  rank_one : (r s : ℕ) → is_root room r ≡ true → is_root room s ≡ true → count_to r (is_root room) ≡ count_to s (is_root room) → r ≡ s
  rank_one r s hr hs e = go (dec_lt r s) (dec_lt s r)
    where
      go : Dec (r < s) → Dec (s < r) → r ≡ s
      go (yes l) d = absurd (omega (arith, e, rank_lt s r (is_root room) l hr))
      go (no l) (yes k) = absurd (omega (arith, e, rank_lt r s (is_root room) k hs))
      go (no l) (no k) = omega arith

  -- the lowest of its shell is its own root
  lowest_root : (p : ℕ) → p < v → Lowest v numbers p → root room p ≡ p
  lowest_root p l low =
      let down = root_le room u.falls p in
      let same : number_of numbers (root room p) ≡ number_of numbers p
      = at_point_lem (root room p) (omega arith) ∙ ap (λ r. count_to r (is_root room)) (root_twice room u.falls p) ∙ sym (at_point_lem p l) in
      omega (arith, low (root room p) (omega arith) same)

  pub numbered : Numbering (triangles_of triangles) v numbers (count_to v (is_root room))
  unfolding is_root
  numbered =
      record {
        long = length_list v (rank_of room);
        led =
            λ p q lp lq e.
            u.sound
            p
            q
            (omega (arith, lp, enough))
            (omega (arith, lq, enough))
            (rank_one (root room p) (root room q) (root_is p) (root_is q) (sym (at_point_lem p lp) ∙ e ∙ at_point_lem q lq));
        same =
            λ p q lp lq w.
            at_point_lem p lp ∙ ap (λ r. count_to r (is_root room)) (led_same triangles (root room) u.together w) ∙ sym (at_point_lem q lq);
        small =
            λ p l. omega (arith, at_point_lem p l, rank_lt v (root room p) (is_root room) (omega (arith, l, root_le room u.falls p)) (root_is p));
        used = λ n l. used n l (kept_at v n (is_root room) l);
        rising =
            λ p q lp lq low-p low-q l.
            let rp = lowest_root p lp low-p in
            let rq = lowest_root q lq low-q in
            omega
            (arith, at_point_lem p lp, at_point_lem q lq, ap (λ r. count_to r (is_root room)) rp, ap (λ r. count_to r (is_root room)) rq, rank_lt q p (is_root room) l (ap (is_root room) (sym rp) ∙ root_is p));
      }
    where
      used : (n : ℕ) → n < count_to v (is_root room) → Ranked v n (is_root room) (get_or (keep_to v (is_root room)) n 0) → Used v numbers n
      used n l r =
          let e = get_or (keep_to v (is_root room)) n 0 in
          record {
            point = e;
            small = r.small;
            number = at_point_lem e r.small ∙ ap (λ q. count_to q (is_root room)) (root_fixed room u.falls e (eqb-true (parent room e) e r.passes)) ∙ r.rank;
          }

-- Loops and fans (document 01, "One cube", third paragraph), and where a fan starts (document 02, request (ii)).
use Rattle.std.specs.Prelude.{List, [], ◌∷◌, ◌++◌, Bool, true, false, not, ◌&&◌, ◌||◌, ℕ, zero, suc, eqb, length}
use Rattle.laws.specs.Order.{is_in}
use Rattle.laws.specs.Mesh.{Arrow, Triangle, triangle}

-- does a segment start at edge e
starts_at : List Arrow → ℕ → Bool
starts_at [] e = false
starts_at (s ∷ ss) e = eqb s.from e || starts_at ss e

-- the edge at which the segment that starts at edge e ends
end_from : List Arrow → ℕ → ℕ
end_from [] e = e
end_from (s ∷ ss) e = elim (eqb s.from e) [ true ↦ s.to | false ↦ end_from ss e ]

-- on from edge e by at most n segments, until the loop is back at its first edge
loop_on : ℕ → List Arrow → ℕ → ℕ → List ℕ
loop_on zero ss first e = []
loop_on (suc n) ss first e = elim (eqb e first) [ true ↦ [] | false ↦ e ∷ loop_on n ss first (end_from ss e) ]

-- the loop through an edge, from that edge on
loop_from : List Arrow → ℕ → List ℕ
loop_from ss e = e ∷ loop_on (length ss) ss e (end_from ss e)

-- is an edge in a list of edges
abbrev has_edge : List ℕ → ℕ → Bool
has_edge es e = is_in eqb e es

-- a loop from each edge that starts a segment and is on no loop taken before
loops_after : List ℕ → List Arrow → List ℕ → List (List ℕ)
loops_after taken ss [] = []
loops_after taken ss (e ∷ es) =
    elim (starts_at ss e && not (has_edge taken e))
    [ true ↦ let loop = loop_from ss e in loop ∷ loops_after (loop ++ taken) ss es | false ↦ loops_after taken ss es ]

-- the loops into which segments close, in order of their lowest edge, each from its lowest edge on; the edges are in rising order
unfoldable pub loops : List ℕ → List Arrow → List (List ℕ)
unfolding loops_after loop_from loop_on starts_at end_from is_in
loops edges ss = loops_after [] ss edges

-- do two edges lie in one face, of faces that are each the list of its edges
in_one_face : List (List ℕ) → ℕ → ℕ → Bool
in_one_face [] e f = false
in_one_face (face ∷ faces) e f = has_edge face e && has_edge face f || in_one_face faces e f

-- the diagonals from edge e0 to each of the edges but the last join no two edges of one face
diagonals_pass : List (List ℕ) → ℕ → List ℕ → Bool
diagonals_pass faces e0 [] = true
diagonals_pass faces e0 (e ∷ []) = true
diagonals_pass faces e0 (e ∷ f ∷ es) = not (in_one_face faces e0 e) && diagonals_pass faces e0 (f ∷ es)

-- the inner diagonals of the fan from e0 on the loop e0, e1, .. ek are e0-e2 up to e0-e(k-1), and none joins two edges of one face
unfoldable pub inner_pass : List (List ℕ) → List ℕ → Bool
unfolding diagonals_pass in_one_face is_in
inner_pass faces [] = true
inner_pass faces (e0 ∷ []) = true
inner_pass faces (e0 ∷ e1 ∷ es) = diagonals_pass faces e0 es

-- a loop from its edge e on: the edges before e come last
on_from : List ℕ → List ℕ → ℕ → List ℕ
on_from before [] e = before
on_from before (x ∷ xs) e = elim (eqb x e) [ true ↦ x ∷ xs ++ before | false ↦ on_from (before ++ x ∷ []) xs e ]

-- may the fan start at edge e: it is on the loop, and the inner diagonals from it all pass
unfoldable pub may_start : List (List ℕ) → List ℕ → ℕ → Bool
unfolding inner_pass on_from is_in
may_start faces loop e = has_edge loop e && inner_pass faces (on_from [] loop e)

-- The loop from the start of its fan on, the first of the edges at which it may start; the edges are in rising order. Where it may start at none, the loop stays as it was: that
-- never arises (proofs/Start.antt, `every_loop_starts`).
unfoldable pub from_start : List (List ℕ) → List ℕ → List ℕ → List ℕ
unfolding may_start on_from
from_start faces [] loop = loop
from_start faces (e ∷ es) loop = elim (may_start faces loop e) [ true ↦ on_from [] loop e | false ↦ from_start faces es loop ]

fan_on : ℕ → List ℕ → List Triangle
fan_on e0 [] = []
fan_on e0 (e1 ∷ []) = []
fan_on e0 (e1 ∷ e2 ∷ es) = triangle e0 e1 e2 ∷ fan_on e0 (e2 ∷ es)

-- a loop e0, e1, e2, e3, .. gives the fan (e0, e1, e2), (e0, e2, e3) and so on
unfoldable pub fan : List ℕ → List Triangle
unfolding fan_on
fan [] = []
fan (e0 ∷ es) = fan_on e0 es

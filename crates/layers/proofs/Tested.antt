-- What the tests of a state say: of the numbers in its room, by those that were read from it.
use mathlib.Core.Path.{◌≡◌, ap, sym, ◌∙◌}
use mathlib.Core.List.{List}
use mathlib.Core.Bool.{Bool, true, false, not, ◌&&◌, ◌||◌}
use Prim.Native.Nat.{ℕ, ◌*◌, ◌≤◌, ◌<◌}
use native.Mathlib.Omega.{arith}
use lib.Dec.{eqb, leb, ltb}
use borrow.Author.Tests.{eqb-true, leb-true, leb-false, not-false}
use Rattle.laws.proofs.Tests.{both, neither}
use Rattle.grid.specs.Limits.{most_number, most_side}
use Rattle.grid.specs.Sides.{sides_fit}
use Rattle.grid.specs.Work.{SidesFit}
use Rattle.grid.proofs.Sides.{sides_within}
use Rattle.layerstate.specs.declared.Head.{Head}
use Rattle.layerstate.specs.State.{most_layer}
use Rattle.layerstate.specs.Heads.{head_in}
use Rattle.layerstate.proofs.Kept.{layer_most}

-- the tests, of the numbers before the kept layer
abbrev pub is_some : Head → Bool
is_some h = sides_fit h.nx h.ny h.nz && leb h.grey most_number

abbrev pub is_early : Head → Bool
is_early h = ltb h.taken h.nz || not (eqb h.closed 0)

abbrev pub is_amiss : ℕ → Head → Bool
is_amiss many h = not (eqb many (h.nx * h.ny)) || (leb h.nz h.taken || not (eqb h.closed 0))

-- what a test said of the numbers that were read, it says of those in the room
pub of_room : (test : Head → Bool) (room : List ℕ) {head : Head} {said answer : Bool} → head ≡ head_in room → said ≡ test head → said ≡ answer → test (head_in room) ≡ answer
of_room test room read told is = sym (told ∙ ap test read) ∙ is

-- numbers that are sides and a grey value
module _ (h : Head) {said : Bool} (told : said ≡ is_some h) (some : said ≡ true) where
  pub fit : SidesFit h.nx h.ny h.nz
  fit = sides_within h.nx h.ny h.nz (both _ _ (sym told ∙ some)).0

  pub grey_fits : h.grey ≤ most_number
  grey_fits = leb-true _ _ (both _ _ (sym told ∙ some)).1

-- a layer whose turn it is
module _ (many : ℕ) (h : Head) {said : Bool} (told : said ≡ is_amiss many h) (no : said ≡ false) where
  pub right : many ≡ h.nx * h.ny
  right = eqb-true _ _ (not-false _ (neither _ _ (sym told ∙ no)).0)

  pub turn : h.taken < h.nz
  turn = leb-false _ _ (neither _ _ (neither _ _ (sym told ∙ no)).1).0

  pub few : SidesFit h.nx h.ny h.nz → (many ≤ most_layer) × (h.taken < most_side)
  few fits = (omega (arith, right, layer_most fits), omega (arith, turn, fits.most_z))

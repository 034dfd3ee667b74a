-- From what was decided, filled and put to what the reader promises.
use mathlib.Core.Path.{◌≡◌, refl, sym, subst}
use mathlib.Core.List.{List}
use Prim.Native.Nat.{ℕ, ◌≤◌, ◌<◌}
use lib.ListN.{length, replicate, length-replicate}
use Rattle.std.specs.Prelude.{Result, Ok, Err}
use Rattle.grid.specs.declared.refusal.Refusal.{Refusal}
use Rattle.laws.specs.Room.{laid}
use Rattle.records.specs.declared.Shell.{Shell}
use Rattle.records.specs.Grown.{none}
use Rattle.meshread.specs.Promise.{Rooms, Reads}
use Rattle.sameshells.specs.Same.{shells_at, LinesThere}
use Rattle.judge.specs.declared.Judged.{Judged}
use Rattle.judge.specs.Judged.{Judges, lengths_for}
use Rattle.filling.specs.Filled.{Fillable}
use Rattle.filling.proofs.Reading.{fillable, read_refused, lines_there, records_hold, read_granted}
use Rattle.reader.specs.Promise.{rooms, answered}
use Rattle.reader.specs.Parts.{ListsRead}

-- what stands after a refusal, and what filling asks
module _ (input : List ℕ) (records : ℕ) (points₀ edges₀ marks₀ triangles₀ work₀ held : List ℕ) (long : length held ≡ length work₀) where
  abbrev Decided : Result Judged Refusal → Type 0
  Decided r = Judges input (lengths_for (length points₀) (length edges₀) (length marks₀) (length triangles₀) records (length work₀)) work₀ r held

  pub lists_refused : (e : Refusal) → Decided (Err e) → ListsRead input records points₀ edges₀ marks₀ triangles₀ work₀ (Err e) points₀ edges₀ marks₀ triangles₀ held
  lists_refused e d = record { held = held; long = long; judged = d; filled = tt; refused = (refl, refl, refl, refl, refl) }

  -- some list of as many records
  some_records : List Shell
  some_records = replicate records none

  as_many : length some_records ≡ records
  unfolding some_records
  as_many = length-replicate records none

  module _ (j : Judged) (d : Decided (Ok j)) where
    pub lists_fit_lem : Fillable input j points₀ edges₀ marks₀ triangles₀ held
    lists_fit_lem =
        fillable input (rooms points₀ edges₀ marks₀ triangles₀ some_records work₀) j held
        (subst (λ n. Judges input (lengths_for (length points₀) (length edges₀) (length marks₀) (length triangles₀) n (length work₀)) work₀ (Ok j) held) (sym as_many) d) long

module _ (input points₀ edges₀ marks₀ triangles₀ : List ℕ) (records₀ : List Shell) (work₀ points edges marks triangles work : List ℕ) where
  abbrev before : Rooms
  before = rooms points₀ edges₀ marks₀ triangles₀ records₀ work₀

  abbrev Listed : Result Judged Refusal → Type 0
  Listed r = ListsRead input (length records₀) points₀ edges₀ marks₀ triangles₀ work₀ r points edges marks triangles work

  pub read_not : (e : Refusal) → Listed (Err e) → Reads input before (answered (Err e) (rooms points edges marks triangles records₀ work))
  read_not e lists =
      let s = lists.refused in
      rw (s.0, s.1, s.2, s.3, s.4) (read_refused input before e lists.held lists.judged)

  module _ (j : Judged) (lists : Listed (Ok j)) where
    pub lines_fit : (0 < j.counts.shells → LinesThere input j.shells_at j.counts.shells) × (j.counts.shells ≤ length records₀)
    lines_fit = (λ some. lines_there input before j lists.held lists.judged, records_hold input before j lists.held lists.judged)

    pub read_whole : (records : List Shell) → records ≡ laid (shells_at input j.shells_at j.counts.shells) records₀ → Reads input before (answered (Ok j.counts) (rooms points edges marks triangles records work))
    read_whole records put = read_granted input before j lists.held lists.judged points edges marks triangles work records lists.long lists.filled put

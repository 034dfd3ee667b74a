-- What is left when all is decided and the lists are filled, but for the records.
use Rattle.std.specs.Prelude.{◌≡◌, List, ℕ, length, Result, IfOk, IfErr}
use Rattle.grid.specs.declared.refusal.Refusal.{Refusal}
use Rattle.judge.specs.declared.Judged.{Judged}
use Rattle.judge.specs.Judged.{Judges, lengths_for}
use Rattle.filling.specs.Filled.{ListsFilled}

-- all is decided, with the work room left so; then the lists are filled, or all rooms stay
pub record ListsRead (input : List ℕ) (records : ℕ) (points₀ edges₀ marks₀ triangles₀ work₀ : List ℕ) (r : Result Judged Refusal) (points edges marks triangles work : List ℕ) : Type 0 where
  pub held : List ℕ
  pub long : length held ≡ length work₀
  pub judged : Judges input (lengths_for (length points₀) (length edges₀) (length marks₀) (length triangles₀) records (length work₀)) work₀ r held
  pub filled : IfOk r (λ j. ListsFilled input j points₀ points edges₀ edges marks₀ marks triangles₀ triangles held work)
  pub refused : IfErr r (λ e. (points ≡ points₀) × (edges ≡ edges₀) × (marks ≡ marks₀) × (triangles ≡ triangles₀) × (work ≡ held))

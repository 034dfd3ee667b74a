-- The reader takes the text of each small grid, with the grid in it, and takes nothing else.
use mathlib.Core.Path.{◌≡◌, refl, ap, sym, ◌∙◌}
use mathlib.Core.List.{List, [], ◌∷◌, ◌++◌}
use Prim.Native.Nat.{ℕ, zero, suc, ◌+◌, ◌*◌, ◌≤◌, ◌<◌}
use native.Mathlib.Nat.{add_comm}
use native.Mathlib.Decide.{dec_lt, ℕ_discrete}
use native.Mathlib.Omega.{arith}
use lib.Dec.{leb}
use lib.ListN.{length, get_or, length-append}
use borrow.Author.Tests.{leb-true}
use Rattle.laws.specs.Range.{join_to}
use Rattle.laws.specs.Sum.{All}
use Rattle.laws.proofs.Tests.{both}
use Rattle.laws.proofs.Sums.{all_append}
use Rattle.laws.proofs.Ranges.{join_cong, join_blocks, all_entries}
use Rattle.grid.specs.Limits.{most_rounds, most_weight, most_number}
use Rattle.grid.specs.Grid.{site}
use Rattle.reading.specs.Reading.{Got, bad, got, after, GotRows, malformed, rows, read_rows}
use Rattle.lines.specs.Line.{line}
use Rattle.gridtext.specs.Grid.{head_of, read_head, samples_of, head_number, Outcome, refused, granted, with_rows, with_head, read_grid}
use Rattle.gridtext.specs.GridText.{head_size, sample_row, rows_text, head_text, grid_text, Small}
use Rattle.gridtext.specs.declared.Head.{Head}
use Rattle.grid.proofs.Sides.{sides_within}
use Rattle.gridtext.proofs.Heads.{read_is_head}
use Rattle.gridtext.proofs.Checks.{passed, head_refused, room_short, room_holds}
use Rattle.reading.proofs.Fields.{row_written}
use Rattle.reading.proofs.Texts.{part, rows_written, rows_read}

-- the rows of a grid in the order of the file
row_part : (h : Head) (samples : List ℕ) (y z : ℕ) → sample_row (head_size h) samples y z ≡ part h.nx samples (h.ny * z + y)
unfolding sample_row part site
row_part h samples y z =
    join_cong h.nx (λ x. get_or samples (x + h.nx * (y + h.ny * z)) 0 ∷ []) (λ x. get_or samples (h.nx * (h.ny * z + y) + x) 0 ∷ [])
    (λ x l. rw (add_comm y (h.ny * z), add_comm x (h.nx * (h.ny * z + y))))

pub rows_parts : (h : Head) (samples : List ℕ) → rows_text (head_size h) samples ≡ join_to (h.ny * h.nz) (λ r. line (part h.nx samples r))
unfolding rows_text
rows_parts h samples =
    join_cong h.nz (λ z. join_to h.ny (λ y. line (sample_row (head_size h) samples y z))) (λ z. join_to h.ny (λ y. line (part h.nx samples (h.ny * z + y))))
    (λ z l. join_cong h.ny (λ y. line (sample_row (head_size h) samples y z)) (λ y. line (part h.nx samples (h.ny * z + y))) (λ y m. ap line (row_part h samples y z)))
    ∙ sym (join_blocks h.ny h.nz (λ r. line (part h.nx samples r)))

-- all samples, row by row
parts_whole : (width count : ℕ) (samples : List ℕ) → length samples ≡ width * count → join_to count (part width samples) ≡ samples
unfolding part
parts_whole width count samples e = sym (join_blocks width count (λ s. get_or samples s 0 ∷ [])) ∙ all_entries samples (width * count) (sym e)

-- each row has nx samples, within the bound
all_within_lem : (most : ℕ) (xs : List ℕ) → All (λ n. n ≤ most) xs → (i : ℕ) → get_or xs i 0 ≤ most
all_within_lem most [] a i = omega arith
all_within_lem most (x ∷ xs) a zero = a.0
all_within_lem most (x ∷ xs) a (suc i) = all_within_lem most xs a.1 i

cells_fit : (most width : ℕ) (f : ℕ → ℕ) → ((x : ℕ) → f x ≤ most) → (length (join_to width (λ x. f x ∷ [])) ≡ width) × All (λ n. n ≤ most) (join_to width (λ x. f x ∷ []))
unfolding join_to
cells_fit most zero f b = (refl, tt)
cells_fit most (suc w) f b =
    let c = cells_fit most w f b in
    (rw (length-append (join_to w (λ x. f x ∷ [])) (f w ∷ [])) (omega (arith, c.0)), all_append (λ n. n ≤ most) (join_to w (λ x. f x ∷ [])) (f w ∷ []) c.1 (b w, tt))

part_fits : (most width : ℕ) (ns : List ℕ) → All (λ n. n ≤ most) ns → (r : ℕ) → (length (part width ns r) ≡ width) × All (λ n. n ≤ most) (part width ns r)
unfolding part
part_fits most width ns a r = cells_fit most width (λ x. get_or ns (width * r + x) 0) (λ x. all_within_lem most ns a (width * r + x))

-- line 1, written and read
head_within : (h : Head) → head_number h ≡ 0 → h.grey ≤ most_number → All (λ n. n ≤ most_number) (h.nx ∷ h.ny ∷ h.nz ∷ h.grey ∷ h.rounds ∷ h.weight ∷ [])
head_within h e g =
    let p = passed h e in
    let s = sides_within h.nx h.ny h.nz p.0 in
    let k = both (leb h.rounds most_rounds) (leb h.weight most_weight) p.2 in
    (omega arith, (omega arith, (omega arith, (g, (omega (arith, leb-true h.rounds most_rounds k.0), (omega (arith, leb-true h.weight most_weight k.1), tt))))))

head_written : (h : Head) (rest : List ℕ) → head_number h ≡ 0 → h.grey ≤ most_number → read_head (head_text h ++ rest) ≡ got h rest
unfolding read_head head_text after head_of
head_written h rest e g = rw (row_written most_number (h.nx ∷ h.ny ∷ h.nz ∷ h.grey ∷ h.rounds ∷ h.weight ∷ []) rest (omega arith) (head_within h e g))

-- the text of a small grid is read as that grid
pub grid_read : (h : Head) (samples room : List ℕ) → Small h samples → samples_of h ≤ length room → read_grid (grid_text h samples) room ≡ granted h samples room
unfolding read_grid grid_text with_rows
grid_read h samples room s l =
    rw (
      head_written h (rows_text (head_size h) samples) s.checked s.grey,
      room_holds h (rows_text (head_size h) samples) room s.checked l,
      rows_parts h samples,
      rows_written most_number h.nx (h.ny * h.nz) 2 (part h.nx samples) (omega arith) (part_fits most_number h.nx samples s.within),
      parts_whole h.nx (h.ny * h.nz) samples s.whole,
    )

-- what is taken is the text of a small grid, and is answered as that grid
pub record Taken (input room : List ℕ) (outcome : Outcome) : Type 0 where
  pub head : Head
  pub samples : List ℕ
  pub small : Small head samples
  pub holds : samples_of head ≤ length room
  pub text : input ≡ grid_text head samples
  pub answer : outcome ≡ granted head samples room

rows_taken : (h : Head) (input rest room : List ℕ) → input ≡ head_text h ++ rest → h.grey ≤ most_number → head_number h ≡ 0 → samples_of h ≤ length room
    → (read : GotRows) → read_rows most_number h.nx (h.ny * h.nz) 2 rest ≡ read → (with_rows h room read).answer.number ≡ 0 → Taken input room (with_rows h room read)
unfolding with_rows refused grid_text
rows_taken h input rest room t g e l (malformed line) r z = absurd (omega arith)
rows_taken h input rest room t g e l (rows ns) r z =
    let a = rows_read most_number h.nx (h.ny * h.nz) 2 ns rest (omega arith) r in
    record {
      head = h;
      samples = ns;
      small = record { checked = e; grey = g; whole = a.1; within = a.2 };
      holds = l;
      text = t ∙ whole a.0;
      answer = refl;
    }
  where
    whole : rest ≡ join_to (h.ny * h.nz) (λ r. line (part h.nx ns r)) → head_text h ++ rest ≡ grid_text h ns
    whole q = ap (λ l. head_text h ++ l) (q ∙ sym (rows_parts h ns))

-- a refusal's number is the answer's
refused_by : (number at : ℕ) (room : List ℕ) (outcome : Outcome) → refused number at room ≡ outcome → outcome.answer.number ≡ 0 → number ≡ 0
unfolding refused
refused_by number at room outcome e z = ap (λ o. o.answer.number) e ∙ z

head_rest : (h : Head) (input rest room : List ℕ) → input ≡ head_text h ++ rest → h.grey ≤ most_number → (with_head room (got h rest)).answer.number ≡ 0 → Taken input room (with_head room (got h rest))
head_rest h input rest room t g z = numbers (ℕ_discrete (head_number h) 0)
  where
    rooms : head_number h ≡ 0 → Dec (length room < samples_of h) → Taken input room (with_head room (got h rest))
    rooms e (yes l) = let n : ◌≡◌ {A = ℕ} 3 0 = refused_by 3 0 room (with_head room (got h rest)) (room_short h rest room e l) z in absurd (omega arith)
    rooms e (no m) =
        let q = room_holds h rest room e (omega arith) in
        rw q (rows_taken h input rest room t g e (omega arith) (read_rows most_number h.nx (h.ny * h.nz) 2 rest) refl (rw q at z))

    numbers : Dec (head_number h ≡ 0) → Taken input room (with_head room (got h rest))
    numbers (yes e) = rooms e (dec_lt (length room) (samples_of h))
    numbers (no ne) = absurd (ne (refused_by (head_number h) 0 room (with_head room (got h rest)) (head_refused h rest room ne) z))

pub grid_taken : (input room : List ℕ) → (read_grid input room).answer.number ≡ 0 → Taken input room (read_grid input room)
unfolding read_grid with_head refused
grid_taken input room z = go (read_head input) refl z
  where
    go : (read : Got Head) → read_head input ≡ read → (with_head room read).answer.number ≡ 0 → Taken input room (with_head room read)
    go bad e z = absurd (omega arith)
    go (got h rest) e z = let t = read_is_head input rest h e in head_rest h input rest room t.written t.within.1.1.1.0 z

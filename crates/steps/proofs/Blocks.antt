-- A block's numbers are small, its place in the summary is there, and its halves are blocks.
use mathlib.Core.Path.{◌≡◌}
use Prim.Native.Nat.{ℕ, suc, ◌+◌, ◌*◌, ◌-◌, ◌^◌, ◌<◌, ◌≤◌}
use native.Mathlib.Nat.{pow-le-pow_right, pow-suc, mul-le-mul_right}
use native.Mathlib.Omega.{arith}
use Rattle.grid.specs.Limits.{halvings, most_side}
use Rattle.summary.specs.Blocks.{place_of, summary_length}
use Rattle.summary.proofs.Places.{level_start_lem, next_start, place_small}
use Rattle.steps.specs.declared.Block.{Block}
use Rattle.steps.specs.Looks.{BlockFits, half_block}

-- where the code looks for a block's least
abbrev pub block_place : Block → ℕ
block_place b = b.start + 2 * (b.x + b.side * (b.y + b.side * b.z))

pub record BlockSmall (b : Block) : Type 0 where
  pub side : b.side ≤ most_side
  pub place : block_place b ≡ place_of (halvings - b.halvings) b.x b.y b.z
  pub there : block_place b + 1 < summary_length
  pub layers : b.side * b.z ≤ block_place b
  pub rows : b.side * (b.y + b.side * b.z) ≤ block_place b
  pub fits : block_place b < 2 ^ 20

pub block_small : (b : Block) → BlockFits b → BlockSmall b
unfolding place_of summary_length
block_small b f =
    let k = halvings - b.halvings in
    let place : block_place b ≡ place_of k b.x b.y b.z
    = λ i. f.start i + 2 * (b.x + f.side i * (b.y + f.side i * b.z)) in
    let there = place_small k b.x b.y b.z (omega arith) (omega (arith, f.side, f.in_x)) (omega (arith, f.side, f.in_y)) (omega (arith, f.side, f.in_z)) in
    let t = b.y + b.side * b.z in
    let once : 1 * t ≤ b.side * t = mul-le-mul_right t (omega (arith, f.in_x)) in
    record {
      side = omega (arith, f.side, pow-le-pow_right {n = 2} (omega arith) {i = k} {j = halvings} (omega arith));
      place = place;
      there = omega (arith, there, place);
      layers = omega (arith, once);
      rows = omega arith;
      fits = omega (arith, there, place, level_start_lem (halvings + 1));
    }

pub half_fits : (b : Block) (h : ℕ) → BlockFits b → 0 < b.halvings → BlockFits (half_block b h)
half_fits b h f positive =
    let k = halvings - b.halvings in
    let next : halvings - (b.halvings - 1) ≡ suc k = omega (arith, f.in_levels) in
    record {
      in_levels = omega (arith, f.in_levels);
      start = rw next (omega (arith, f.start, next_start k));
      side = rw next (omega (arith, f.side, pow-suc 2 k));
      in_x = omega (arith, f.in_x);
      in_y = omega (arith, f.in_y);
      in_z = omega (arith, f.in_z);
    }

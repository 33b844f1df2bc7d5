-- The tail of a kind, as the code has it.
use mathlib.Core.Path.{◌≡◌, refl}
use mathlib.Core.Bool.{true}
use mathlib.Core.List.{List}
use Prim.Native.Nat.{ℕ, ◌-◌, ◌*◌, ◌≤◌}
use native.Mathlib.Nat.{mul-le-mul, le_refl}
use native.Mathlib.Omega.{arith}
use lib.ListN.{get_or}
use borrow.Author.Tests.{leb-true}
use Rattle.types.specs.Response.{set_width, most_tags}
use Rattle.request.specs.Table.{Tail, alone, by_set, by_count, absent, longest_tail}
use Rattle.request.specs.Request.{tags_at, tail_length, tail_ok}
use Rattle.request.specs.Rows.{tail_layout}
use Rattle.request.specs.declared.table.Tail.TheVariants.{Alone, BySet, ByCount, Absent}
use Rattle.request.proofs.TableRule.{holds_tail}
use Rattle.request.proofs.SetTags.{tags_length_le}

-- ---- which tail it is

pub alone_told : (w : Tail) → tail_layout w ≡ Alone → w ≡ alone
unfolding tail_layout
alone_told alone e = refl
alone_told (by_set each) e = absurd (let z : ◌≡◌ {A = ℕ} 0 1 = cc in omega arith)
alone_told (by_count place most each) e = absurd (let z : ◌≡◌ {A = ℕ} 0 1 = cc in omega arith)
alone_told absent e = absurd (let z : ◌≡◌ {A = ℕ} 0 1 = cc in omega arith)

pub set_told : (w : Tail) (each : ℕ) → tail_layout w ≡ BySet each → w ≡ by_set each
unfolding tail_layout
set_told alone each e = absurd (let z : ◌≡◌ {A = ℕ} 0 1 = cc in omega arith)
set_told (by_set n) each e = cc
set_told (by_count place most n) each e = absurd (let z : ◌≡◌ {A = ℕ} 0 1 = cc in omega arith)
set_told absent each e = absurd (let z : ◌≡◌ {A = ℕ} 0 1 = cc in omega arith)

pub counted_told : (w : Tail) (place most each : ℕ) → tail_layout w ≡ ByCount place most each → w ≡ by_count place most each
unfolding tail_layout
counted_told alone place most each e = absurd (let z : ◌≡◌ {A = ℕ} 0 1 = cc in omega arith)
counted_told (by_set n) place most each e = absurd (let z : ◌≡◌ {A = ℕ} 0 1 = cc in omega arith)
counted_told (by_count p m n) place most each e = cc
counted_told absent place most each e = absurd (let z : ◌≡◌ {A = ℕ} 0 1 = cc in omega arith)

pub absent_told : (w : Tail) → tail_layout w ≡ Absent → w ≡ absent
unfolding tail_layout
absent_told alone e = absurd (let z : ◌≡◌ {A = ℕ} 0 1 = cc in omega arith)
absent_told (by_set each) e = absurd (let z : ◌≡◌ {A = ℕ} 0 1 = cc in omega arith)
absent_told (by_count place most each) e = absurd (let z : ◌≡◌ {A = ℕ} 0 1 = cc in omega arith)
absent_told absent e = refl

-- ---- the count

module _ (fixed : ℕ) (t : List ℕ) where
  -- No tail that may be is longer than the longest.
  pub tail_length_le : (w : Tail) → tail_ok w t ≡ true → tail_length w fixed t ≤ longest_tail w
  unfolding tail_ok tail_length longest_tail tags_at
  tail_length_le alone h = le_refl 0
  tail_length_le (by_set each) h = mul-le-mul (le_refl each) (tags_length_le (get_or t (fixed - 1) 0) (get_or t fixed 0))
  tail_length_le (by_count place most each) h = mul-le-mul (le_refl each) (leb-true (get_or t place 0) most h)
  tail_length_le absent h = le_refl 0

-- ---- what the code's sums need

pub set_held : (each fixed : ℕ) → holds_tail (by_set each) fixed ≡ true → set_width ≤ fixed
unfolding holds_tail
set_held each fixed e = leb-true set_width fixed e

pub counter_held : (place most each fixed : ℕ) → holds_tail (by_count place most each) fixed ≡ true → place ≤ fixed
unfolding holds_tail
counter_held place most each fixed e = leb-true place fixed e

pub set_longest : (each n : ℕ) → n ≤ most_tags → each * n ≤ longest_tail (by_set each)
unfolding longest_tail
set_longest each n l = mul-le-mul (le_refl each) l

pub counted_longest : (place most each n : ℕ) → n ≤ most → each * n ≤ longest_tail (by_count place most each)
unfolding longest_tail
counted_longest place most each n l = mul-le-mul (le_refl each) l

-- Laws by which the code of marks meets its definition. Assumes nothing.
use Rattle.std.specs.Prelude.{ℕ, ◌/◌, ◌%◌, ◌^◌, ◌≤◌, ◌<◌, ◌≡◌, false, get_or}
use Rattle.std.proofs.Math.Path.{sym, ap, ap₂}
use Rattle.std.proofs.Common.{◌∙◌}
use Rattle.std.proofs.Math.Dec.{eqb}
use Rattle.std.specs.Int.Bits.{bit_or}
use Rattle.std.proofs.Math.ListN.{set}
use Rattle.base_tests.proofs.Laws.Choice.{ite_lt, ite_ge}
use Rattle.lent_work.specs.declared.Marks.{Marks}
use Rattle.lent_work.specs.Marks.{is_marked, marked}

module _ (m : Marks) (i : ℕ) where
  -- an identifier past the last has no mark
  pub unmarked_past : 512 ≤ i → false ≡ is_marked m i
  unfolding is_marked
  unmarked_past h = sym (ite_ge i 512 _ _ h)

  pub marked_past : 512 ≤ i → m ≡ marked m i
  unfolding marked
  marked_past h = sym (ite_ge i 512 _ _ h)

  -- the word that holds its bit
  pub marked_in : (w : ℕ) → i < 512 → w ≡ i / 64 → eqb (get_or m.words w 0 / 2 ^ (i % 64) % 2) 1 ≡ is_marked m i
  unfolding is_marked
  marked_in w h e = ap (λ (x : ℕ). eqb (get_or m.words x 0 / 2 ^ (i % 64) % 2) 1) e ∙ sym (ite_lt i 512 _ _ h)

  pub mark_in : (w x : ℕ) → i < 512 → w ≡ i / 64 → x ≡ 2 ^ (i % 64) → ◌≡◌ {A = Marks} (record { words = set m.words w (bit_or (get_or m.words w 0) x) }) (marked m i)
  unfolding marked
  mark_in w x h e g = ap₂ (λ (y z : ℕ). record { words = set m.words y (bit_or (get_or m.words y 0) z) }) e g ∙ sym (ite_lt i 512 _ _ h)

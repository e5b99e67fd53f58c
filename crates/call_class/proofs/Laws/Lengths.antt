-- The code's tests of lengths are the definition's. Assumes nothing.
use Rattle.std.specs.Prelude.{ℕ, ◌+◌, ◌-◌, ◌*◌, ◌/◌, ◌%◌, ◌<◌, ◌≡◌, Bool, true, not, ◌||◌, List, eqb, ltb, min, length}
use Rattle.std.proofs.Common.{arith, sym, ap, ap₂, ◌∙◌, ⊎_elim}
use borrow.Author.Tests.{lt-ltb, le-ltb, eq-eqb, ne_eqb}
use Rattle.base_tests.proofs.Laws.Bool.{or_first, or_second}
use Rattle.base_tests.proofs.Laws.Order.{lt_or_ge, same_or_not}
use Rattle.def_effects.specs.declared.Place.{Place}
use Rattle.def_effects.specs.declared.Session.{Session}
use Rattle.lent_layout.specs.Layout as Layout
use Rattle.lent_layout.specs.Context.{ContextWords}
use Rattle.refuse_entries.specs.Words.{identifiers}
use Rattle.call_undo.specs.Saves.{saved_words}
use Rattle.call_outcome.specs.Attempts.{lengths_of}
use Rattle.call_outcome.specs.Calls.{call, room_for, table_wrong, context_wrong, lengths_wrong}
use Rattle.call_room.proofs.Laws.Room.{or_assoc}

-- ---- as many identifiers as there can be, and one

-- for more of them no slice has a right length
too_many : (n words : ℕ) → 512 < n → table_wrong Layout.identifiers n words ≡ true
unfolding table_wrong
too_many n words h = ⊎_elim
    (λ l. or_first (ltb words (n * 4)) _ (lt-ltb words (n * 4) l))
    (λ g. or_second (ltb words (n * 4)) _ (le-ltb words (n * 4) g) ∙ or_first (ltb 2048 words) _ (lt-ltb 2048 words (omega arith)))
    (lt_or_ge words (n * 4))

-- so that how many more there are does not count
few_tell : (n words : ℕ) → table_wrong Layout.identifiers (min n 513) words ≡ table_wrong Layout.identifiers n words
few_tell n words = ⊎_elim
    (λ h. too_many (min n 513) words (omega arith) ∙ sym (too_many n words h))
    (λ h. ap (λ (x : ℕ). table_wrong Layout.identifiers x words) (let z : min n 513 ≡ n = omega arith in z))
    (lt_or_ge 512 n)

few_tell_context : (n room : ℕ) (c : ContextWords) → context_wrong (min n 513) room c ≡ context_wrong n room c
unfolding context_wrong
few_tell_context n room c = rw (few_tell n (length c.identifiers))

-- ---- scratch for a state

-- the code takes 1,024 words away where it can
scratch_is : (m n : ℕ) → (ltb m 1024 || not (eqb (m - 1024) n)) ≡ not (eqb m (1024 + n))
scratch_is m n = ⊎_elim
    (λ l. or_first (ltb m 1024) _ (lt-ltb m 1024 l) ∙ sym (ap not (ne_eqb m (1024 + n) (λ e. omega arith))))
    (λ g. or_second (ltb m 1024) _ (le-ltb m 1024 g) ∙ ⊎_elim
    (λ e. ap not (eq-eqb (m - 1024) n (omega arith) ∙ sym (eq-eqb m (1024 + n) e)))
    (λ d. ap not (ne_eqb (m - 1024) n (λ e. d (omega arith)) ∙ sym (ne_eqb m (1024 + n) d)))
    (same_or_not m (1024 + n)))
    (lt_or_ge m 1024)

-- ---- all lengths

-- one test after another, from the left
pub lengths_are : (ss : List ℕ) (c : ContextWords) (xs os s64 s32 : List ℕ) (n room : ℕ) (t v2 v3 v4 v5 v : Bool) → n ≡ min (length ss / 16) 513 → room ≡ room_for c xs → t ≡ context_wrong n room c
    → v2 ≡ (t || not (eqb (length xs % 98) 0)) → v3 ≡ (v2 || not (eqb (length os) 109760)) → v4 ≡ (v3 || not (eqb (length s32) (saved_words (lengths_of c))))
    → v5 ≡ (v4 || ltb (length s64) 1024) → v ≡ (v5 || not (eqb (length s64 - 1024) (length ss)))
    → (vs : List ℕ) (flag : Bool) (s : Session) (p : Place) (own : ℕ) → v ≡ lengths_wrong (call vs ss flag c s xs p own os s64 s32)
unfolding lengths_wrong identifiers
lengths_are ss c xs os s64 s32 n room t v2 v3 v4 v5 v hn hr ht h2 h3 h4 h5 h vs flag s p own =
    (let e : v ≡ (((((t || t2) || t3) || t4) || ta) || tb) = cc in e)
    ∙ (let e : (((((t || t2) || t3) || t4) || ta) || tb) ≡ (t || (t2 || (t3 || (t4 || (ta || tb))))) = simp or_assoc in e)
    ∙ ap₂ (λ (x y : Bool). x || (t2 || (t3 || (t4 || y)))) (ht ∙ ap₂ (λ (x y : ℕ). context_wrong x y c) hn hr ∙ few_tell_context (length ss / 16) (room_for c xs) c) (scratch_is (length s64) (length ss))
  where
    t2 : Bool
    t2 = not (eqb (length xs % 98) 0)

    t3 : Bool
    t3 = not (eqb (length os) 109760)

    t4 : Bool
    t4 = not (eqb (length s32) (saved_words (lengths_of c)))

    ta : Bool
    ta = ltb (length s64) 1024

    tb : Bool
    tb = not (eqb (length s64 - 1024) (length ss))

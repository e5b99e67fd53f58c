-- The lent tables are faithful. Assumes nothing.
use Rattle.std.specs.Prelude.{ℕ, zero, suc, ◌*◌, ◌/◌, ◌%◌, ◌^◌, ◌≤◌, ◌<◌, max, ◌≡◌, refl, Bool, true, false, ◌||◌, List, [], ◌∷◌, eqb, length, get_or, set}
use Rattle.std.proofs.Common.{pow-suc, mul-div_cancel, zero-lt-suc, arith, sym, ap, ap₂, ◌∙◌, subst, ⊎_elim, length-set, get_or-set_same, get_or-set_other, eq-eqb, ne_eqb}
use Rattle.std.proofs.Math.Nat.{mul-mod_left}
use Rattle.std.specs.Int.Bits.{bit_or}
use Rattle.base_tests.specs.Tests.{ite}
use Rattle.base_tests.proofs.Laws.Choice.{ite_lt}
use Rattle.def_transfer.specs.Instruction.{has}
use Rattle.lent_values.proofs.Laws.Cell as CellLaws
use Rattle.lent_sets.specs.Rows.{bit}
use Rattle.base_tests.proofs.Laws.Order.{same_or_not}
use Rattle.lent_sets.proofs.Laws.Bit.{bit_low, bit_suc, bit_one, bit_or_is}
use Rattle.lent_sets.proofs.Laws.Row as RowLaws
use Rattle.lent_copies.specs.Copies.{zeros}
use Rattle.lent_copies.proofs.Laws.Copy.{zero_word}
use Rattle.lent_work.specs.declared.Marks.{Marks}
use Rattle.lent_work.specs.Marks.{no_marks, is_marked, marked}
use Rattle.lent_layout.specs.Layout as Layout
use Rattle.lent_world.specs.World.{lent, one_more}
use Rattle.lent_work.specs.Access.{access_of}
use Rattle.def_faithful.specs.Faithful.{Faithful}
use Rattle.lent_world.proofs.Laws.StateFaithful.{value_word, value_put, set_is, set_put}
use Rattle.lent_context.specs.Abstract.{abstract}
use Rattle.lent_world.proofs.Laws.Back.{effects_length, diagnostics_length}
use Rattle.lent_world.proofs.Laws.ContextFaithful.{FitContext, effect_fit, effect_add, key_fit, key_put, link_fit, link_put, read_fit, read_means, diagnostic_fit, diagnostic_add}
use Rattle.lent_context.proofs.Laws.Abstract.{key_is, link_is, places_is, inside_is, tracked_is, ref_is, hoisted_is, access_is, name_is, transitive_is, identities_is, identity_is, instance_is}
use Rattle.lent_context.proofs.Laws.Ordered.{effect_is}
use Rattle.lent_context.proofs.Laws.Numbered.{number_is}
use Rattle.lent_world.proofs.Laws.Held.{Holds, none_held, append_length, one_held}

-- ---- marks

halved : (a : ℕ) → 2 ^ suc a / 2 ≡ 2 ^ a
halved a = ap (λ (x : ℕ). x / 2) (pow-suc 2 a) ∙ mul-div_cancel (2 ^ a) (zero-lt-suc 1)

bit_same : (a : ℕ) → bit (2 ^ a) a ≡ 1
bit_same zero = bit_low 1
bit_same (suc a) = bit_suc (2 ^ suc a) a ∙ ap (λ (x : ℕ). bit x a) (halved a) ∙ bit_same a

bit_diff : (a b : ℕ) → (a ≡ b → ⊥) → bit (2 ^ a) b ≡ 0
bit_diff zero zero n = absurd (n refl)
bit_diff zero (suc b) n = bit_one b
bit_diff (suc a) zero n = bit_low (2 ^ suc a) ∙ ap (λ (x : ℕ). x % 2) (pow-suc 2 a) ∙ mul-mod_left (2 ^ a) 2
bit_diff (suc a) (suc b) n = bit_suc (2 ^ suc a) b ∙ ap (λ (x : ℕ). bit x b) (halved a) ∙ bit_diff a b (λ e. n (ap suc e))

-- a mark for each identifier of the list, and no other
pub record Marked (m : Marks) (l : List ℕ) : Type 0 where
  pub long : length m.words ≡ 8
  pub mark : (j : ℕ) → j < 512 → is_marked m j ≡ has j l

pub no_marks_is : Marked no_marks []
unfolding is_marked has bit zeros
no_marks_is = record { long = refl; mark = λ j l. ite_lt j 512 (eqb (get_or no_marks.words (j / 64) 0 / 2 ^ (j % 64) % 2) 1) false l ∙ go (j / 64) (j % 64) }
  where
    go : (w k : ℕ) → eqb (get_or no_marks.words w 0 / 2 ^ k % 2) 1 ≡ false
    go w k = ap (λ (x : ℕ). eqb x 1) (ap (λ (x : ℕ). bit x k) (zero_word 8 w) ∙ Rattle.lent_sets.proofs.Laws.Bit.bit_zero k)

mark_word : (m : Marks) (i j : ℕ) → length m.words ≡ 8 → i < 512 → j < 512 → bit (get_or (set m.words (i / 64) (bit_or (get_or m.words (i / 64) 0) (2 ^ (i % 64)))) (j / 64) 0) (j % 64) ≡ max (bit (get_or m.words (j / 64) 0) (j % 64)) (ite (eqb i j) 1 0)
mark_word m i j long p q = ⊎_elim same other (same_or_not (i / 64) (j / 64))
  where
    new : ℕ
    new = bit_or (get_or m.words (i / 64) 0) (2 ^ (i % 64))

    bits : i / 64 ≡ j / 64 → bit (2 ^ (i % 64)) (j % 64) ≡ ite (eqb i j) 1 0
    bits e = ⊎_elim
        (λ s. ap₂ (λ (a b : ℕ). bit (2 ^ a) b) (ap (λ (x : ℕ). x % 64) s) refl ∙ bit_same (j % 64) ∙ sym (ap (λ (b : Bool). ite b 1 0) (eq-eqb i j s)))
        (λ s. bit_diff (i % 64) (j % 64) (λ r. s (omega arith)) ∙ sym (ap (λ (b : Bool). ite b 1 0) (ne_eqb i j s)))
        (same_or_not i j)

    same : i / 64 ≡ j / 64 → bit (get_or (set m.words (i / 64) new) (j / 64) 0) (j % 64) ≡ max (bit (get_or m.words (j / 64) 0) (j % 64)) (ite (eqb i j) 1 0)
    same e =
        ap (λ (x : ℕ). bit (get_or (set m.words (i / 64) new) x 0) (j % 64)) (sym e)
        ∙ ap (λ (x : ℕ). bit x (j % 64)) (get_or-set_same m.words (i / 64) new 0 (omega arith))
        ∙ bit_or_is (get_or m.words (i / 64) 0) (2 ^ (i % 64)) (j % 64)
        ∙ ap₂ max (ap (λ (x : ℕ). bit (get_or m.words x 0) (j % 64)) e) (bits e)

    other : (i / 64 ≡ j / 64 → ⊥) → bit (get_or (set m.words (i / 64) new) (j / 64) 0) (j % 64) ≡ max (bit (get_or m.words (j / 64) 0) (j % 64)) (ite (eqb i j) 1 0)
    other n =
        ap (λ (x : ℕ). bit x (j % 64)) (get_or-set_other m.words (i / 64) (j / 64) new 0 (λ e. n (sym e)))
        ∙ (let z : bit (get_or m.words (j / 64) 0) (j % 64) ≡ max (bit (get_or m.words (j / 64) 0) (j % 64)) 0 = omega arith in z)
        ∙ ap (max (bit (get_or m.words (j / 64) 0) (j % 64))) (sym (ap (λ (b : Bool). ite b 1 0) (ne_eqb i j (λ e. n (ap (λ (x : ℕ). x / 64) e)))))

or_mark : (x : ℕ) (b : Bool) → x < 2 → eqb (max x (ite b 1 0)) 1 ≡ (b || eqb x 1)
or_mark x true l = eq-eqb (max x 1) 1 (omega arith)
or_mark x false l = ap (λ (y : ℕ). eqb y 1) (let z : max x 0 ≡ x = omega arith in z)

eqb_sym : (i j : ℕ) → eqb i j ≡ eqb j i
eqb_sym i j = ⊎_elim (λ e. eq-eqb i j e ∙ sym (eq-eqb j i (sym e))) (λ n. ne_eqb i j n ∙ sym (ne_eqb j i (λ e. n (sym e)))) (same_or_not i j)

pub mark_put : (m : Marks) (l : List ℕ) (i : ℕ) → i < 512 → Marked m l → Marked (marked m i) (i ∷ l)
unfolding has marked is_marked bit
mark_put m l i p h = subst (λ (x : Marks). Marked x (i ∷ l)) (sym is) (record {
  long = length-set m.words (i / 64) _ ∙ h.long;
  mark = λ j q.
      in_range new j q ∙ ap (λ (x : ℕ). eqb x 1) (mark_word m i j h.long p q) ∙ or_mark _ (eqb i j) (Rattle.lent_sets.proofs.Laws.Bit.bit_lt (get_or m.words (j / 64) 0) (j % 64))
      ∙ ap₂ (λ (a b : Bool). a || b) (eqb_sym i j) (sym (in_range m j q) ∙ h.mark j q);
})
  where
    new : Marks
    new = record { words = set m.words (i / 64) (bit_or (get_or m.words (i / 64) 0) (2 ^ (i % 64))) }

    is : marked m i ≡ new
    is = ite_lt i 512 new m p

    in_range : (x : Marks) (j : ℕ) → j < 512 → is_marked x j ≡ eqb (bit (get_or x.words (j / 64) 0) (j % 64)) 1
    in_range x j q = ite_lt j 512 (eqb (get_or x.words (j / 64) 0 / 2 ^ (j % 64) % 2) 1) false q

-- ---- all of them

unfoldable pub lent_faithful : (n : ℕ) → n ≤ 512 → Faithful n lent
unfolding one_more access_of
lent_faithful n few = record {
  few = few;
  FitValues = λ t. length t ≡ 1024;
  value_fit = λ t v a h p q. CellLaws.put_length t v a ∙ h;
  value_word = λ t v h. value_word t v;
  value_put = value_put;
  FitSets = λ t. length t ≡ 16 * n;
  set_fit = λ t i s h p q. RowLaws.fit_set n t i s h;
  set_is = λ t i h. set_is t i;
  set_put = set_put n;
  FitContext = FitContext;
  meaning = abstract;
  count_is = λ c h. sym (effects_length Layout.interned c.effects 0 c.effect_count);
  effect_is = λ c k h. effect_is c h.ordered k;
  key_is = λ c v h. key_is c v;
  number_is = λ c k h. number_is c h.numbered k;
  link_is = λ c v h. link_is c v;
  places_is = λ c f h. places_is c f;
  inside_is = λ c f h. inside_is c f;
  tracked_is = λ c f h. tracked_is c f;
  ref_is = λ c i h. ref_is c i;
  hoisted_is = λ c i h. hoisted_is c i;
  access_is = λ c i h l. access_is c i;
  name_is = λ c i h. name_is c i;
  transitive_is = λ c h. transitive_is c;
  identities_is = λ c h. identities_is c;
  instances_is = λ c h. sym (diagnostics_length c.diagnostics 0 c.diagnostic_count);
  identity_is = λ c d h. identity_is c d;
  instance_is = λ c m d h. instance_is c m d;
  effect_fit = effect_fit;
  effect_add = λ c e h l s z. effect_add c e h l s;
  key_fit = key_fit;
  key_put = λ c v k h p s z f. key_put c v k h p s;
  link_fit = λ c v f h p. link_fit c v f h;
  link_put = link_put;
  read_fit = read_fit;
  read_made = λ c f i h. read_means c f i;
  diagnostic_fit = λ c m d h l z. diagnostic_fit c m d h;
  diagnostic_add = λ c m d h l z. diagnostic_add c m d h l;
  Marked = Marked;
  none_marked = no_marks_is;
  mark_is = λ m l i h p. h.mark i (omega arith);
  mark_put = λ m l i h p. mark_put m l i (omega arith) h;
  Lists = λ l es. length es ≤ 1120 → Holds l es;
  none_listed_is = λ h. none_held;
  list_put = λ l es e h s p. let a = append_length es e in one_held l es e (omega arith) s (h (omega arith));
  Counts = λ a b. b ≤ 4294967295 → a ≡ b;
  none_counted = λ h. refl;
  one_more_is = λ a b h p. let e : a ≡ b = h (omega arith) in ite_lt a 4294967295 (suc a) a (omega arith) ∙ ap suc e;
  access_of_is = λ i p. ite_lt i 512 (suc i) 0 (omega arith);
}

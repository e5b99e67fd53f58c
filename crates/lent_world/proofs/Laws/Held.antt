-- The words of an output list hold a list of effects. Assumes nothing.
use Rattle.std.specs.Prelude.{ℕ, suc, ◌+◌, ◌*◌, ◌≤◌, ◌<◌, ◌≡◌, refl, List, [], ◌∷◌, ◌++◌, length, get_or}
use Rattle.std.proofs.Common.{arith, sym, ap, ◌∙◌, subst}
use Rattle.base_tests.proofs.Laws.Choice.{ite_lt}
use Rattle.def_effects.specs.Effects.{AliasingEffect}
use Rattle.def_effects.specs.Keys.{effect_key}
use Rattle.lent_copies.proofs.Laws.Copy.{zeros_length, zero_word}
use Rattle.lent_tables.specs.Words.{index}
use Rattle.lent_effects.specs.Records.{put_effect}
use Rattle.lent_effects.proofs.Laws.EffectFrames.{effect_length, effect_after}
use Rattle.lent_context.specs.Lent.{effects_in}
use Rattle.lent_world.specs.World.{lent, Listed, put_listed}
use Rattle.def_faithful.specs.Ranges.{Short}
use Rattle.lent_world.proofs.Laws.Back.{effect_appended}
use Rattle.lent_layout.specs.Layout.{output}

-- the words of an output list hold a list of effects, in order, and zero behind them
pub record Holds (l : Listed) (es : List AliasingEffect) : Type 0 where
  pub long : length l.words ≡ 109760
  pub count : l.count ≡ length es
  pub effects : effects_in output l.words 0 (length es) ≡ es
  pub behind : (k : ℕ) → length es * 98 ≤ k → get_or l.words k 0 ≡ 0

pub none_held : Holds lent.none_listed []
unfolding effects_in
none_held = record { long = zeros_length 109760; count = refl; effects = refl; behind = λ k l. zero_word 109760 k }

pub append_length : (es : List AliasingEffect) (e : AliasingEffect) → length (es ++ (e ∷ [])) ≡ suc (length es)
append_length [] e = refl
append_length (x ∷ es) e = ap suc (append_length es e)

pub one_held : (l : Listed) (es : List AliasingEffect) (e : AliasingEffect) → length es < 1120 → Short (effect_key e) → Holds l es → Holds (put_listed l e) (es ++ (e ∷ []))
unfolding put_listed index
one_held l es e room s h =
    let c = h.count in
    let m : ℕ = length es in
    let g = h.long in
    let a : length (es ++ (e ∷ [])) ≡ suc m = append_length es e in
    subst (λ (x : Listed). Holds x (es ++ (e ∷ []))) (sym (ite_lt l.count 4294967295 _ l (omega arith) ∙ ap (λ (n : ℕ). record { words = put_effect output l.words n e; count = suc n }) c)) (record {
      long = effect_length output l.words m e ∙ g;
      count = sym a;
      effects = ap (effects_in output (put_effect output l.words m e) 0) a
          ∙ effect_appended output l.words m e refl room (let z : 0 + m * 98 + 98 ≤ length l.words = omega arith in z) s ∙ ap (λ (x : List AliasingEffect). x ++ (e ∷ [])) h.effects;
      behind = λ k q. after m k (let z : suc m * 98 ≤ k = omega arith in z) ∙ h.behind k (let z : m * 98 ≤ k = omega arith in z);
    })
  where
    after : (m k : ℕ) → suc m * 98 ≤ k → get_or (put_effect output l.words m e) k 0 ≡ get_or l.words k 0
    after m k q = effect_after output l.words m e k (omega arith)

-- What an instruction lists and walks at the most, by its candidates' keys. Assumes nothing.
use Prim.Native.Nat.{ℕ, zero, suc, ◌+◌, ◌*◌, ◌≤◌}
use native.Mathlib.Omega.{arith}
use Rattle.std.specs.Prelude.{◌≡◌, Option, None, Some}
use Rattle.std.proofs.Math.Path.{refl, subst}
use Rattle.std.proofs.Common.{sym}
use mathlib.Core.List.{List, [], ◌∷◌}
use Rattle.def_effects.specs.declared.Place.{Place}
use Rattle.def_effects.specs.Effects.{AliasingEffect}
use Rattle.def_effects.specs.Keys.{EffectKey, effect_key}
use Rattle.def_transfer.specs.Monad.{◌>>=◌, ◌>>◌, and_then, each}
use Rattle.def_transfer.specs.Tables.{Tables, World}
use Rattle.def_transfer.specs.State.{ask, change}
use Rattle.def_transfer.specs.Step.{act, apply_effect}
use Rattle.def_transfer.specs.Instruction.{Instruction, report_early, early_error, early_errors, define_lvalue, start_instruction, keep_entries, run, apply_signature}
use Rattle.laws_counts.proofs.Laws.Grows.{total, after, Grows, and_after, bind_known, bind_keeps, then_keeps, then_rest, refuse_grows, done_grows, if_grows, each_grows, atomically_grows}
use Rattle.laws_counts.proofs.Laws.Keeps.{ask_grows, change_grows, set_of_grows, peek_grows, intern_grows, intern_diagnostic_grows, define_lvalue_grows}
use Rattle.laws_counts.proofs.Laws.Steps.{weight, freezes, Measure, cost, Finding, act_grows, intern_known, total_same, started, mutated, lists, walks_of}

module _ {T : Tables} (found : Finding T) (𝓜 : Measure T) where
  open 𝓜 use {of, listing, walking, emits}

  -- the step of an effect: at most what its key costs
  pub step_grows : (d : ℕ) (e : AliasingEffect) → Grows of (cost 𝓜 (effect_key e)) (apply_effect {T = T} d e)
  unfolding apply_effect
  step_grows zero e = refuse_grows 99
  step_grows (suc d) e = bind_known (intern_known found e) (intern_grows e) (λ x k. subst (λ (z : EffectKey). Grows of (cost 𝓜 z) (act (apply_effect d) x)) (sym k) (act_grows 𝓜 (apply_effect d) x (step_grows d)))

  -- the costs of the candidates
  total_cost : (l : List AliasingEffect) → total (λ e. cost 𝓜 (effect_key e)) l ≡ listing * total (λ e. weight (effect_key e)) l + walking * total (λ e. freezes (effect_key e)) l
  unfolding total
  total_cost [] = omega arith
  total_cost (e ∷ l) = let h = total_cost l in omega arith

  -- an early error of a place
  report_early_grows : (p : Place) → Grows of listing (report_early {T = T} p)
  unfolding report_early
  report_early_grows p = bind_keeps (set_of_grows _) (λ o. bind_keeps (peek_grows _) (λ a. bind_keeps (ask_grows _) (λ name.
      if_grows _ (bind_keeps (intern_diagnostic_grows _) (λ d. emits _)) done_grows)))

  -- the same, if the place is of the own function's context
  -- else nothing
  early_error_grows : (f : ℕ) (p : Place) → Grows of listing (early_error {T = T} f p)
  unfolding early_error
  early_error_grows f p = bind_keeps (ask_grows _) (λ near. if_grows near (report_early_grows p) done_grows)

  -- the early errors of an instruction: one for each place mutated inside, at the most
  early_errors_grows : (o : Option ℕ) (w : World T) → of (after (early_errors o w)) ≤ of w.rest.work + listing * mutated T o w.rest.context
  unfolding early_errors mutated ask ◌>>=◌ and_then
  early_errors_grows None w = (done_grows {μ = of} {b = listing * 0}).grows w
  early_errors_grows (Some f) w = let q = total_same listing (T.mutated_inside w.rest.context f) in let h = (each_grows (λ p. listing) (T.mutated_inside w.rest.context f) (early_error_grows f)).grows w in omega arith

  -- what comes after the early errors
  -- the candidates; the lvalue and the session's entries add nothing
  rest_grows : (ins : Instruction) → Grows of (total (λ e. cost 𝓜 (effect_key e)) ins.candidates) (each ins.candidates (apply_effect {T = T} 4) >> (define_lvalue ins.lvalue.identifier >> change keep_entries))
  rest_grows ins = then_rest (each_grows _ ins.candidates (step_grows 4)) (then_keeps (define_lvalue_grows _) (change_grows _ (λ r. refl)))

  -- the run of an instruction: what it lists and walks at the most
  pub run_grows : (ins : Instruction) (w : World T) → of (after (run ins w)) ≤ of w.rest.work + (listing * lists T ins w.rest.context + walking * walks_of ins)
  unfolding run ◌>>◌ ◌>>=◌
  run_grows ins w =
      let q = total_cost ins.candidates in
      let h = and_after _ _ (early_errors ins.own w) (early_errors_grows ins.own w) (λ a. rest_grows ins) in
      omega arith

  -- the call for an instruction, refused or not: the measure at the end, from the work that it starts from
  pub signature_grows : (ins : Instruction) (w : World T) → of (after (apply_signature ins w)) ≤ of (started T) + (listing * lists T ins w.rest.context + walking * walks_of ins)
  unfolding apply_signature start_instruction change ◌>>◌ ◌>>=◌ and_then
  signature_grows ins w = atomically_grows of (run ins) u _ (run_grows ins u)
    where
      u : World T
      u = record { state = w.state; rest = record { session = w.rest.session; context = w.rest.context; work = started T } }

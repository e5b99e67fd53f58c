-- The text does the same over faithful tables as over plain ones: the instruction and the call. Assumes nothing.
use Prim.Native.Nat.{ℕ, ◌<◌}
use Rattle.std.specs.Prelude.{refl}
use Rattle.base_tests.specs.Tests.{All}
use Rattle.def_effects.specs.Keys.{effect_key}
use Rattle.def_transfer.specs.Monad.{and_then, ◌>>=◌, ◌>>◌}
use Rattle.def_transfer.specs.Tables.{Tables, World}
use Rattle.def_transfer.specs.State.{change}
use Rattle.def_transfer.specs.Instruction.{Instruction, start_instruction, run, apply_signature}
use Rattle.def_transfer.specs.Pure.{pure}
use Rattle.def_faithful.specs.Faithful.{Faithful}
use Rattle.def_faithful.proofs.Laws.Means.{Any, Begins, Rel, Means, then_means, each_all, atomically_means, change_means}
use Rattle.def_faithful.proofs.Laws.Steps.{Fine, step_means, early_errors_means, define_lvalue_means}

module _ {n : ℕ} {T : Tables} {F : Faithful n T} where
  run_means : (ins : Instruction) → All (λ e. Fine n (effect_key e)) ins.candidates → ins.lvalue.identifier < n → Means F Any (run ins) (run ins)
  unfolding run
  run_means ins a l =
      then_means (early_errors_means ins.own) (then_means (each_all (λ e. Fine n (effect_key e)) ins.candidates a (λ e x. step_means 4 e x.named x.short))
      (then_means (define_lvalue_means _ l) (change_means _ _ (λ r q h. record {
        session = record { low = h.session.low; next = h.session.next; access = h.session.access; span = h.session.span; entries = h.work.entries };
        fit = h.fit;
        context = h.context;
        unused = h.unused;
        work = h.work;
      }))))

  -- faithful tables behave as plain ones
  pub signature_means : (ins : Instruction) → All (λ e. Fine n (effect_key e)) ins.candidates → ins.lvalue.identifier < n → Means F Any (apply_signature ins) (apply_signature ins)
  unfolding apply_signature start_instruction
  signature_means ins a l =
      then_means (change_means _ _ (λ r q h. record {
        session = h.session;
        fit = h.fit;
        context = h.context;
        unused = h.unused;
        work = record { initialized = F.none_marked; listed = F.none_listed_is; freeze_entries = refl; entries = F.none_counted };
      })) (atomically_means (run_means ins a l))

  -- the call for an instruction, from such worlds
  pub call_means : (ins : Instruction) → All (λ e. Fine n (effect_key e)) ins.candidates → ins.lvalue.identifier < n → (w : World T) (u : World pure) → Begins F w u → Rel F Any (apply_signature ins w) (apply_signature ins u)
  unfolding apply_signature start_instruction change ◌>>◌ ◌>>=◌ and_then
  call_means ins a l w u h = (atomically_means (run_means ins a l)).runs _ _ (record {
    state = h.state;
    rest = record { session = h.session; fit = h.fit; context = h.context; unused = h.unused; work = record { initialized = F.none_marked; listed = F.none_listed_is; freeze_entries = refl; entries = F.none_counted } };
  })

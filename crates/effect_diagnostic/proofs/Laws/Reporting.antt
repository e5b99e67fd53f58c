-- Laws by which the code meets the definition. Assumes nothing.
use Rattle.std.specs.Prelude.{ℕ, ◌+◌, ◌≤◌, ◌<◌, ◌≡◌, Option, None, Some}
use Rattle.std.proofs.Math.Path.{refl, ap}
use Rattle.std.proofs.Common.{sym, ◌∙◌}
use mathlib.Core.List.{List}
use Rattle.std.proofs.Math.Dec.{leb}
use Rattle.std.proofs.Math.ListN.{set}
use Rattle.def_effects.specs.declared.Diagnostic.{Diagnostic}
use Rattle.def_effects.specs.declared.AliasingDiagnostic.{AliasingDiagnostic}
use Rattle.def_transfer.specs.Monad.{Res, ok, refused, and_then, ◌>>=◌, ◌>>◌, return, refuse, when◌then◌else◌}
use Rattle.def_transfer.specs.Tables.{World}
use Rattle.def_transfer.specs.State.{ask, change}
use Rattle.def_transfer.specs.Context as Context
use Rattle.lent_layout.specs.declared.Numbered.{Numbered}
use Rattle.lent_layout.specs.Context.{ContextWords, with_diagnostics}
use Rattle.lent_context.specs.Lent as Lent
use Rattle.lent_work.specs.declared.Run.{Run}
use Rattle.laws_monad.proofs.Laws.Answers.{bind_ok, bind_fails, if_le, if_gt}
use Rattle.lent_world.specs.World.{lent, world}

-- ---- the identity

-- what was found, and the ways through
module _ (w : World lent) (d : Diagnostic) (x : Option ℕ) (e : x ≡ Lent.find_identity w.rest.context d) where
  -- an equal message has its identity
  -- nothing else is asked
  pub identity_found : (n : ℕ) → x ≡ Some n → Context.new_identity (Lent.find_identity w.rest.context d) w ≡ ok n w
  unfolding Context.new_identity return
  identity_found n h = ap (λ (o : Option ℕ). Context.new_identity o w) (sym e ∙ h)

  module _ (h : x ≡ None) (m : ℕ) (g : m ≡ Lent.identity_count w.rest.context) where
    -- without one the number of identities decides
    identity_new : Context.new_identity (Lent.find_identity w.rest.context d) w ≡ (when leb 256 m then refuse 10 else return m) w
    unfolding Context.new_identity ask ◌>>=◌ and_then
    identity_new =
        ap (λ (o : Option ℕ). Context.new_identity o w) (sym e ∙ h)
        ∙ ap (λ (k : ℕ). (when leb 256 k then refuse 10 else return k) w) (sym g)

    -- there are 256 identities
    -- the 257th is refused
    pub identity_full : 256 ≤ m → Context.new_identity (Lent.find_identity w.rest.context d) w ≡ refused 10 w
    unfolding refuse
    identity_full l = identity_new ∙ if_le 256 m _ _ _ _ l refl

    -- there are fewer
    pub identity_next : m < 256 → Context.new_identity (Lent.find_identity w.rest.context d) w ≡ ok m w
    unfolding return
    identity_next l = identity_new ∙ if_gt 256 m _ _ _ _ l refl

-- ---- the instance

-- the same of records: their place is the instance
module _ (vs ss : List ℕ) (c : ContextWords) (os : List ℕ) (r : Run) (i : ℕ) (d : Diagnostic) (x : Option ℕ) (e : x ≡ Lent.find_instance c i d) where
  -- an equal record has its place
  -- nothing else is asked
  pub instance_found : (n : ℕ) → x ≡ Some n → Context.new_instance i d (Lent.find_instance c i d) (world vs ss c os r) ≡ ok n (world vs ss c os r)
  unfolding Context.new_instance return
  instance_found n h = ap (λ (o : Option ℕ). Context.new_instance i d o (world vs ss c os r)) (sym e ∙ h)

  module _ (h : x ≡ None) where
    -- without one the number of records decides
    instance_new : Context.new_instance i d (Lent.find_instance c i d) (world vs ss c os r)
        ≡ (when leb 256 c.diagnostic_count then refuse 10 else (Context.put_diagnostic i d >> return c.diagnostic_count)) (world vs ss c os r)
    unfolding Context.new_instance ask ◌>>=◌ and_then
    instance_new = ap (λ (o : Option ℕ). Context.new_instance i d o (world vs ss c os r)) (sym e ∙ h)

    -- there are 256 records
    -- the 257th is refused
    pub instance_full : 256 ≤ c.diagnostic_count → Context.new_instance i d (Lent.find_instance c i d) (world vs ss c os r) ≡ refused 10 (world vs ss c os r)
    unfolding refuse
    instance_full l = instance_new ∙ if_le 256 c.diagnostic_count _ _ _ _ l refl

    -- there are fewer
    -- the record is written after the last, and the count counts it
    pub instance_next : (ds : List Numbered) → c.diagnostic_count < 256 → ds ≡ set c.diagnostics c.diagnostic_count (record { identity = i; diagnostic = d })
        → Context.new_instance i d (Lent.find_instance c i d) (world vs ss c os r) ≡ ok c.diagnostic_count (world vs ss (with_diagnostics ds (c.diagnostic_count + 1) c) os r)
    unfolding Context.put_diagnostic change Lent.add_diagnostic return ◌>>◌ ◌>>=◌ and_then
    instance_next ds l p =
        instance_new
        ∙ if_gt 256 c.diagnostic_count _ _ _ _ l (ap (λ (u : List Numbered). ok c.diagnostic_count (world vs ss (with_diagnostics u (c.diagnostic_count + 1) c) os r)) (sym p))

-- ---- both numbers

-- the code's two calls, one after the other
module _ (w : World lent) (d : Diagnostic) where
  -- the identity is refused, and so is the whole
  pub intern_first : (n : ℕ) → Context.new_identity (Lent.find_identity w.rest.context d) w ≡ refused n w → Context.intern_diagnostic d w ≡ refused n w
  unfolding Context.intern_diagnostic ask
  intern_first n e = bind_ok _ _ _ _ _ _ refl (bind_fails _ _ _ _ _ e)

  -- there is an identity
  module _ (a : ℕ) (h : Context.new_identity (Lent.find_identity w.rest.context d) w ≡ ok a w) (u : World lent) where
    -- what follows it is the rest of the whole
    intern_rest : (y : Res (World lent) AliasingDiagnostic) → (Context.new_instance a d (Lent.find_instance w.rest.context a d) >>= λ b. return (record { identity = a; instance = b })) w ≡ y → Context.intern_diagnostic d w ≡ y
    unfolding Context.intern_diagnostic ask
    intern_rest y e = bind_ok _ _ _ _ _ _ refl (bind_ok _ _ _ _ _ _ h (bind_ok _ _ _ _ _ _ refl e))

    -- the instance is refused, and so is the whole
    pub intern_second : (n : ℕ) → Context.new_instance a d (Lent.find_instance w.rest.context a d) w ≡ refused n u → Context.intern_diagnostic d w ≡ refused n u
    intern_second n e = intern_rest _ (bind_fails _ _ _ _ _ e)

    -- both make the diagnostic
    pub intern_both : (b : ℕ) → Context.new_instance a d (Lent.find_instance w.rest.context a d) w ≡ ok b u → Context.intern_diagnostic d w ≡ ok (record { identity = a; instance = b }) u
    unfolding return
    intern_both b e = intern_rest _ (bind_ok _ _ _ _ _ _ e refl)

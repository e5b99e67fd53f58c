-- Laws by which the code of flows meets the definition. Assumes nothing.
use Rattle.std.specs.Prelude.{◌≡◌, ◌⊎◌, Bool, true, false, List}
use Rattle.std.proofs.Common.{◌∙◌, ⊎_elim}
use Rattle.std.proofs.Math.Path.{refl, sym, ap}
use Rattle.def_kinds.specs.declared.ValueKind.{ValueKind}
use Rattle.def_kinds.specs.declared.ValueKind.TheVariants.{Mutable, Frozen, Primitive, MaybeFrozen, Global, Context}
use Rattle.def_kinds.specs.declared.AbstractValue.{AbstractValue}
use Rattle.def_effects.specs.declared.Place.{Place}
use Rattle.def_effects.specs.Effects.{AliasingEffect, ImmutableCapture, MaybeAlias}
use Rattle.def_transfer.specs.Monad.{Res, ok, refused, M, Done, refuse}
use Rattle.def_transfer.specs.Tables.{World}
use Rattle.def_transfer.specs.State.{ask, kind_with_span}
use Rattle.def_transfer.specs.Context.{emit, is_initialized}
use Rattle.def_transfer.specs.Step.{by_flow, flow_of, destination_of, source_of, flowing}
use Rattle.lent_work.specs.Marks.{is_marked}
use Rattle.lent_effects.specs.declared.AliasingEffect.TheVariants as Head
use Rattle.lent_effects.specs.Records.{effect_with}
use Rattle.laws_monad.proofs.Laws.Answers.{bind_ok, if_true, if_false}
use Rattle.lent_world.specs.World.{lent}
use Rattle.effect_acts.specs.declared.FlowKind.{FlowKind}
use Rattle.effect_acts.specs.declared.FlowKind.TheVariants as Kind
use Rattle.effect_acts.specs.declared.Next.{Next}
use Rattle.effect_acts.specs.declared.Next.TheVariants.{Nothing, Itself, Derived}
use Rattle.effect_acts.specs.Acts.{follow}
use Rattle.effect_flow.specs.Flows.{flows}

-- ---- what comes next, by the kinds

-- what a flow comes to is what comes next, whatever step a derived effect takes, and in any world
abbrev pub Comes : Place → Place → Bool → ValueKind → ValueKind → Next → Type 0
Comes from into maybe i f n =
    (again : AliasingEffect → M (World lent) Done) (e : AliasingEffect) (cs : List Place) (w : World lent)
    → by_flow (flow_of maybe (destination_of i) (source_of f)) (again (ImmutableCapture from into)) (emit e) (again (MaybeAlias from into)) w ≡ follow again e cs n w

module _ (from into : Place) where
  -- a MaybeAlias of a source that is not frozen
  itself_of : (i f : ValueKind) → (f ≡ Frozen → ⊥) → (f ≡ MaybeFrozen → ⊥) → Comes from into true i f Itself
  unfolding by_flow flow_of follow
  itself_of i Mutable n m again e cs w = refl
  itself_of i Frozen n m again e cs w = absurd (n refl)
  itself_of i Primitive n m again e cs w = refl
  itself_of i MaybeFrozen n m again e cs w = absurd (m refl)
  itself_of i Global n m again e cs w = refl
  itself_of i Context n m again e cs w = refl

  -- a Mutable source into a place that cannot be written
  mutable_none : (i : ValueKind) → (i ≡ Mutable → ⊥) → (i ≡ MaybeFrozen → ⊥) → (i ≡ Context → ⊥) → Comes from into false i Mutable Nothing
  unfolding by_flow flow_of follow
  mutable_none Mutable n m k again e cs w = absurd (n refl)
  mutable_none Frozen n m k again e cs w = refl
  mutable_none Primitive n m k again e cs w = refl
  mutable_none MaybeFrozen n m k again e cs w = absurd (m refl)
  mutable_none Global n m k again e cs w = refl
  mutable_none Context n m k again e cs w = absurd (k refl)

  -- a Context source into one
  context_none : (i : ValueKind) → (i ≡ Mutable → ⊥) → (i ≡ MaybeFrozen → ⊥) → (i ≡ Context → ⊥) → Comes from into false i Context Nothing
  unfolding by_flow flow_of follow
  context_none Mutable n m k again e cs w = absurd (n refl)
  context_none Frozen n m k again e cs w = refl
  context_none Primitive n m k again e cs w = refl
  context_none MaybeFrozen n m k again e cs w = absurd (m refl)
  context_none Global n m k again e cs w = refl
  context_none Context n m k again e cs w = absurd (k refl)

  -- a Primitive or Global source
  -- is copied: nothing flows
  other_none : (i f : ValueKind) → (f ≡ Frozen → ⊥) → (f ≡ MaybeFrozen → ⊥) → (f ≡ Mutable → ⊥) → (f ≡ Context → ⊥) → Comes from into false i f Nothing
  unfolding by_flow flow_of follow
  other_none i Mutable n m k l again e cs w = absurd (k refl)
  other_none i Frozen n m k l again e cs w = absurd (n refl)
  other_none i Primitive n m k l again e cs w = refl
  other_none i MaybeFrozen n m k l again e cs w = absurd (m refl)
  other_none i Global n m k l again e cs w = refl
  other_none i Context n m k l again e cs w = absurd (l refl)

module _ (from into : Place) (maybe : Bool) (i f : ValueKind) where
  -- kinds and flag may be taken for what they are known to be
  comes_at : (b : Bool) (j g : ValueKind) (n : Next) → maybe ≡ b → i ≡ j → f ≡ g → Comes from into b j g n → Comes from into maybe i f n
  comes_at b j g n p q r c again e cs w =
      ap (λ (x : Bool). by_flow (flow_of x (destination_of i) (source_of f)) (again (ImmutableCapture from into)) (emit e) (again (MaybeAlias from into)) w) p
      ∙ ap (λ (k : ValueKind). by_flow (flow_of b (destination_of k) (source_of f)) (again (ImmutableCapture from into)) (emit e) (again (MaybeAlias from into)) w) q
      ∙ ap (λ (k : ValueKind). by_flow (flow_of b (destination_of j) (source_of k)) (again (ImmutableCapture from into)) (emit e) (again (MaybeAlias from into)) w) r
      ∙ c again e cs w

  -- a frozen source
  pub from_frozen : (f ≡ Frozen) ⊎ (f ≡ MaybeFrozen) → Comes from into maybe i f (Derived (Head.ImmutableCapture from into))
  unfolding by_flow flow_of follow effect_with
  from_frozen h =
      ⊎_elim (λ r. comes_at maybe i Frozen (Derived (Head.ImmutableCapture from into)) refl refl r (λ again e cs w. refl)) (λ r. comes_at maybe i MaybeFrozen (Derived (Head.ImmutableCapture from into)) refl refl r (λ again e cs w. refl)) h

  -- a MaybeAlias of any other
  pub maybe_itself : (f ≡ Frozen → ⊥) → (f ≡ MaybeFrozen → ⊥) → maybe ≡ true → Comes from into maybe i f Itself
  maybe_itself n m p = comes_at true i f Itself p refl refl (itself_of from into i f n m)

  module _ (p : maybe ≡ false) where
    -- mutable into mutable: the effect itself
    pub mutable_itself : f ≡ Mutable → (i ≡ Mutable) ⊎ (i ≡ MaybeFrozen) → Comes from into maybe i f Itself
    unfolding by_flow flow_of follow
    mutable_itself r h =
        ⊎_elim (λ q. comes_at false Mutable Mutable Itself p q r (λ again e cs w. refl)) (λ q. comes_at false MaybeFrozen Mutable Itself p q r (λ again e cs w. refl)) h

    -- by way of a context: a MaybeAlias
    pub mutable_maybe : f ≡ Mutable → i ≡ Context → Comes from into maybe i f (Derived (Head.MaybeAlias from into))
    unfolding by_flow flow_of follow effect_with
    mutable_maybe r q = comes_at false Context Mutable (Derived (Head.MaybeAlias from into)) p q r (λ again e cs w. refl)

    pub mutable_nothing : f ≡ Mutable → (i ≡ Mutable → ⊥) → (i ≡ MaybeFrozen → ⊥) → (i ≡ Context → ⊥) → Comes from into maybe i f Nothing
    mutable_nothing r n m k = comes_at false i Mutable Nothing p refl r (mutable_none from into i n m k)

    -- by way of a context: a MaybeAlias
    pub context_maybe : f ≡ Context → (i ≡ Mutable) ⊎ ((i ≡ MaybeFrozen) ⊎ (i ≡ Context)) → Comes from into maybe i f (Derived (Head.MaybeAlias from into))
    unfolding by_flow flow_of follow effect_with
    context_maybe r h =
        ⊎_elim (λ q. comes_at false Mutable Context (Derived (Head.MaybeAlias from into)) p q r (λ again e cs w. refl)) (λ g. ⊎_elim (λ q. comes_at false MaybeFrozen Context (Derived (Head.MaybeAlias from into)) p q r (λ again e cs w. refl)) (λ q. comes_at false Context Context (Derived (Head.MaybeAlias from into)) p q r (λ again e cs w. refl)) g) h

    pub context_nothing : f ≡ Context → (i ≡ Mutable → ⊥) → (i ≡ MaybeFrozen → ⊥) → (i ≡ Context → ⊥) → Comes from into maybe i f Nothing
    context_nothing r n m k = comes_at false i Context Nothing p refl r (context_none from into i n m k)

    pub other_nothing : (f ≡ Frozen → ⊥) → (f ≡ MaybeFrozen → ⊥) → (f ≡ Mutable → ⊥) → (f ≡ Context → ⊥) → Comes from into maybe i f Nothing
    other_nothing n m k l = comes_at false i f Nothing p refl refl (other_none from into i f n m k l)

-- ---- a flow between two places

module _ (again : AliasingEffect → M (World lent) Done) (e : AliasingEffect) (cs : List Place) (from into : Place) (w : World lent) where
  -- the destination's kind, then the source's
  pub flowing_goes : (maybe : Bool) (i f : AbstractValue) (u v : World lent) (n : Next)
      → kind_with_span into.identifier into.span w ≡ ok i u
      → kind_with_span from.identifier from.span u ≡ ok f v
      → Comes from into maybe i.kind f.kind n → flowing again maybe e from into w ≡ follow again e cs n v
  unfolding flowing
  flowing_goes maybe i f u v n g h c = bind_ok _ _ _ _ _ _ g (bind_ok _ _ _ _ _ _ h (c again e cs v))

  module _ (k : FlowKind) (y : Res (World lent) Done) where
    -- a Capture and a MaybeAlias ask nothing
    pub capture_goes : k ≡ Kind.Capture → flowing again false e from into w ≡ y → flows again k e from into w ≡ y
    unfolding flows
    capture_goes h g = ap (λ (x : FlowKind). flows again x e from into w) h ∙ g

    pub maybe_goes : k ≡ Kind.MaybeAlias → flowing again true e from into w ≡ y → flows again k e from into w ≡ y
    unfolding flows
    maybe_goes h g = ap (λ (x : FlowKind). flows again x e from into w) h ∙ g

    -- an Alias into a place that was initialized in this instruction
    module _ (h : k ≡ Kind.Alias) (b : Bool) (q : b ≡ is_marked w.rest.work.initialized into.identifier) where
      pub alias_goes : b ≡ true → flowing again false e from into w ≡ y → flows again k e from into w ≡ y
      unfolding flows is_initialized ask
      alias_goes t g = ap (λ (x : FlowKind). flows again x e from into w) h ∙ bind_ok _ _ _ _ _ _ refl (if_true _ _ _ _ _ (sym q ∙ t) g)

    -- an Alias that flows like a MaybeAlias
    module _ (h : k ≡ Kind.AliasAsMaybe) (b : Bool) (q : b ≡ is_marked w.rest.work.initialized into.identifier) where
      pub as_maybe_goes : b ≡ true → flowing again true e from into w ≡ y → flows again k e from into w ≡ y
      unfolding flows is_initialized ask
      as_maybe_goes t g = ap (λ (x : FlowKind). flows again x e from into w) h ∙ bind_ok _ _ _ _ _ _ refl (if_true _ _ _ _ _ (sym q ∙ t) g)

  -- "7 Alias into one not initialized in it"
  pub alias_refused : (k : FlowKind) → k ≡ Kind.Alias → (b : Bool) → b ≡ is_marked w.rest.work.initialized into.identifier → b ≡ false → flows again k e from into w ≡ refused 7 w
  unfolding flows is_initialized ask refuse
  alias_refused k h b q t = ap (λ (x : FlowKind). flows again x e from into w) h ∙ bind_ok _ _ _ _ _ _ refl (if_false _ _ _ _ _ (sym q ∙ t) refl)

  pub as_maybe_refused : (k : FlowKind) → k ≡ Kind.AliasAsMaybe → (b : Bool) → b ≡ is_marked w.rest.work.initialized into.identifier → b ≡ false → flows again k e from into w ≡ refused 7 w
  unfolding flows is_initialized ask refuse
  as_maybe_refused k h b q t = ap (λ (x : FlowKind). flows again x e from into w) h ∙ bind_ok _ _ _ _ _ _ refl (if_false _ _ _ _ _ (sym q ∙ t) refl)

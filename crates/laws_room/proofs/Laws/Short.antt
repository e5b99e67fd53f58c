-- THEOREM 2: where there is room for what the candidates of an instruction need, it does the same as with more room. Assumes nothing.
use Rattle.std.specs.Prelude.{ℕ, ◌+◌, ◌≤◌, ◌≡◌, refl}
use Rattle.std.proofs.Common.{sym, ap, subst, ◌∙◌}
use Rattle.def_effects.specs.declared.Session.{Session}
use Rattle.def_transfer.specs.Monad.{Res, ok, refused, Done}
use Rattle.def_transfer.specs.Tables.{Tables, State, Work, World}
use Rattle.def_transfer.specs.Instruction.{Instruction, apply_signature}
use Rattle.laws_room.specs.Room.{needs}
use Rattle.laws_room.proofs.Laws.Near.{Padded, used_of, ended, beside, besides, Close}
use Rattle.laws_room.proofs.Laws.Steps.{signature_near}

module _ {T : Tables} (𝓟 : Padded T) where
  -- worlds that are equal but for their contexts, of which the second has more room
  pub record Longer (w v : World T) : Type 0 where
    pub state : v.state ≡ w.state
    pub session : v.rest.session ≡ w.rest.session
    pub work : v.rest.work ≡ w.rest.work
    pub pad : 𝓟.Pad w.rest.context v.rest.context

  -- the same answer or the same refusal, in such worlds
  pub data Alike {A : Type 0} : Res (World T) A → Res (World T) A → Type 0 where
    answered : (a : A) {w v : World T} → Longer w v → Alike (ok a w) (ok a v)
    refusing : (n : ℕ) {w v : World T} → Longer w v → Alike (refused n w) (refused n v)

  -- worlds beside each other are such worlds
  besides_alike : {A : Type 0} (r : Res (World T) A) (d : T.Context) → 𝓟.Pad (ended r) d → Alike r (besides d r)
  besides_alike (ok a w) d p = answered a (record { state = refl; session = refl; work = refl; pad = p })
  besides_alike (refused n w) d p = refusing n (record { state = refl; session = refl; work = refl; pad = p })

  -- and the other way round
  longer_beside : (w v : World T) → Longer w v → v ≡ beside v.rest.context w
  longer_beside w v l =
      ap (λ (s : State T). record { state = s; rest = v.rest }) l.state
      ∙ ap (λ (s : Session). record { state = w.state; rest = record { session = s; context = v.rest.context; work = v.rest.work } }) l.session
      ∙ ap (λ (k : Work T). record { state = w.state; rest = record { session = w.rest.session; context = v.rest.context; work = k } }) l.work

  -- a slice with room for what the candidates need is as good as a longer one
  pub short_alike : (ins : Instruction) (w v : World T) → Longer w v → used_of 𝓟 v.rest.context + needs ins.candidates ≤ 𝓟.room → Alike (apply_signature ins w) (apply_signature ins v)
  short_alike ins w v l h = subst (λ (s : Res (World T) Done). Alike (apply_signature ins w) s) (sym (ap (apply_signature ins) (longer_beside w v l) ∙ x.same)) (besides_alike (apply_signature ins w) x.long x.pad)
    where
      x : Close 𝓟 (needs ins.candidates) v.rest.context (apply_signature ins w) (apply_signature ins (beside v.rest.context w))
      x = (signature_near ins).near w v.rest.context l.pad h

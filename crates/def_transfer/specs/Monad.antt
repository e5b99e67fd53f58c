-- Computations over a world W: each answers and goes on, or is refused with a number. Assumes nothing: these are definitions.
use Rattle.std.specs.Prelude.{ℕ, Bool, true, false, List, [], ◌∷◌}

pub data Res (W A : Type 0) : Type 0 where
  ok : A → W → Res W A
  refused : ℕ → W → Res W A

abbrev pub M : Type 0 → Type 0 → Type 0
M W A = W → Res W A

-- an answer that says nothing
abbrev pub Done : Type 0
Done = Unit {0}

infixl 20 ◌>>=◌ ◌>>◌
infix 15 when◌then◌else◌
unfoldable pub and_then : {W A B : Type 0} → Res W A → (A → M W B) → Res W B
and_then (ok a w) f = f a w
and_then (refused n w) f = refused n w

unfoldable pub ◌>>=◌ : {W A B : Type 0} → M W A → (A → M W B) → M W B
◌>>=◌ m f w = and_then (m w) f

unfoldable pub ◌>>◌ : {W A B : Type 0} → M W A → M W B → M W B
◌>>◌ m n = m >>= λ _. n

unfoldable pub return : {W A : Type 0} → A → M W A
return a w = ok a w

unfoldable pub refuse : {W A : Type 0} → ℕ → M W A
refuse n w = refused n w

unfoldable pub done : {W : Type 0} → M W Done
done = return tt

unfoldable pub when◌then◌else◌ : {W A : Type 0} → Bool → M W A → M W A → M W A
when◌then◌else◌ b m n w = elim b [ true ↦ m w | false ↦ n w ]

-- one after the other
unfoldable pub each : {W A : Type 0} → List A → (A → M W Done) → M W Done
each [] f = done
each (x ∷ xs) f = f x >> each xs f

-- "After a refusal state, context and session are as before": what is refused leaves the world it began with
unfoldable pub restore : {W A : Type 0} → W → Res W A → Res W A
restore w₀ (ok a w) = ok a w
restore w₀ (refused n w) = refused n w₀

unfoldable pub atomically : {W A : Type 0} → M W A → M W A
atomically m w = restore w (m w)

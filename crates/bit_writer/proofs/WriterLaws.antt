-- Laws of a writer's methods, one after the other. Assumes nothing.
use mathlib.Core.Path.{◌≡◌, refl, ◌∙◌}
use mathlib.Core.Bool.{Bool}
use mathlib.Core.List.{List, ◌++◌}
use Prim.Native.Nat.{ℕ}
use Rattle.bit_writer.specs.declared.Pending.{Pending}
use Rattle.bit_writer.specs.declared.Writer.{Writer}
use Rattle.bit_writer.specs.Calls.{Pushed}
use Rattle.bit_writer.specs.Writers.{IsSame}
use Rattle.bit_writer.proofs.PushLaws.{pushed_append}

pub same_self : (w : Writer) → IsSame w w
same_self w = record { buf = refl; limit = refl }

pub same_more : {w₁ w₂ w₃ : Writer} → IsSame w₁ w₂ → IsSame w₂ w₃ → IsSame w₁ w₃
same_more s t = record { buf = t.buf ∙ s.buf; limit = t.limit ∙ s.limit }

-- a code after another, where the limit stays
pub wrote_more : {before mid after : List ℕ} {limit limit' : ℕ} {xs ys : List Bool} {p q r : Pending} → limit' ≡ limit → Pushed before mid p limit xs q
    → Pushed mid after q limit' ys r → Pushed before after p limit (xs ++ ys) r
wrote_more same p q = pushed_append p (rw same at q)

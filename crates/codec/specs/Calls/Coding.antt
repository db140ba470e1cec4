-- How a block is coded, as the definitions of its code have it.
use Rattle.std.specs.Prelude.{Bool, not, ◌||◌, List, ℕ, eqb}
use Rattle.std.specs.Float.{Format}
use Rattle.params.specs.declared.choices.Kind.{Kind}
use Rattle.params.specs.Choices.{kind_number, dimension_number}
use Rattle.blocks.specs.Calls.{is_exact}
use Rattle.codec.specs.declared.Coding.{Coding}
use Rattle.codec.specs.declared.form.Form.{Form}
use Rattle.codec.specs.Calls.{uncut_to, whole_at, read_to, whole_to}
use Rattle.codec.specs.Calls.Padded.{padded_block}
use Rattle.codec.specs.Calls.Form.{Formed}

-- kind 1
abbrev pub is_float : Kind → Bool
is_float kind = eqb (kind_number kind) 1

-- the code of a block with no cut, and how many planes of it are whole in a slot of so many bits
abbrev pub code_by : Format → Coding → List ℕ → List Bool
code_by f c ws = uncut_to f (is_float c.kind) (is_exact c.mode) (dimension_number c.dimension) c.planes c.lowest ws

abbrev pub whole_by : Format → Coding → ℕ → List ℕ → ℕ
whole_by f c width ws = whole_at f (is_float c.kind) (is_exact c.mode) (dimension_number c.dimension) c.planes c.lowest width ws

abbrev pub FormedBy : Format → Coding → List ℕ → Form → Type 0
FormedBy f c ws form = Formed f (is_float c.kind) (is_exact c.mode) (dimension_number c.dimension) c.planes c.lowest ws form

-- what a reader makes of a slot's bits, how many planes are whole, and whether they are a block's padded code; a lossy slot may hold any bits
abbrev pub read_by : Format → Coding → List Bool → List ℕ
read_by f c s = read_to f (is_float c.kind) (is_exact c.mode) (dimension_number c.dimension) c.planes c.lowest s

abbrev pub whole_read_by : Format → Coding → List Bool → ℕ
whole_read_by f c s = whole_to f (is_float c.kind) (is_exact c.mode) (dimension_number c.dimension) c.planes c.lowest s

abbrev pub readable_by : Format → Coding → List Bool → Bool
readable_by f c s = not (is_exact c.mode) || padded_block f (is_float c.kind) (dimension_number c.dimension) c.planes s

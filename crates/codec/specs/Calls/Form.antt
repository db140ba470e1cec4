-- The forms of a block's code: what stands in front of the planes, and what these are the planes of. The format f gives the word size.
use Rattle.std.specs.Prelude.{◌≡◌, Bool, true, false, cond, List, [], ◌∷◌, ◌++◌, map, ℕ, ◌-◌, ◌≤◌, length}
use Rattle.std.specs.Float.{Format}
use Rattle.std.specs.Float.Ieee.{ones}
use Rattle.bits.specs.Stream.{number_bits}
use Rattle.words.specs.Word.{flip}
use Rattle.floats.specs.Pattern.{word_size, field_bits}
use Rattle.floats.specs.Integer.{to_integer}
use Rattle.rounding.specs.Rounded.{to_pattern}
use Rattle.codec.specs.declared.form.Form.{Form}
use Rattle.codec.specs.declared.form.Form.TheVariants.{Integers, Zeros, Multiples, Flipped, Lossy}
use Rattle.codec.specs.Depth.{whole_integers}
use Rattle.codec.specs.Calls.{FieldsBelow, integers_code, uncut_to, whole_at}
use Rattle.codec.specs.Calls.Padded.{multiples, others}

-- what stands in front of the planes
abbrev pub head : Format → Form → List Bool
head f Integers = []
head f Zeros = false ∷ []
head f (Multiples e) = true ∷ false ∷ number_bits (field_bits f) e
head f Flipped = true ∷ true ∷ []
head f (Lossy e planes) = true ∷ number_bits (field_bits f) e

-- whether planes follow
abbrev pub planes_follow : Form → Bool
planes_follow Integers = true
planes_follow Zeros = false
planes_follow (Multiples e) = true
planes_follow Flipped = true
planes_follow (Lossy e planes) = true

-- how many in lossy mode, of so many
abbrev pub planes_in : Form → ℕ → ℕ
planes_in Integers most = most
planes_in Zeros most = most
planes_in (Multiples e) most = most
planes_in Flipped most = most
planes_in (Lossy e planes) most = planes

-- the integers that words become, and back
abbrev pub integers_in : Format → Form → List ℕ → List ℕ
integers_in f Integers ws = ws
integers_in f Zeros ws = ws
integers_in f (Multiples e) ws = map (to_integer f e) ws
integers_in f Flipped ws = map (flip (word_size f)) ws
integers_in f (Lossy e planes) ws = map (to_integer f e) ws

abbrev pub words_in : Format → Form → List ℕ → List ℕ
words_in f Integers ints = ints
words_in f Zeros ints = ints
words_in f (Multiples e) ints = map (to_pattern f e) ints
words_in f Flipped ints = map (flip (word_size f)) ints
words_in f (Lossy e planes) ints = map (to_pattern f e) ints

-- whether a block of the words that integers become is coded in this form with these integers; in lossy mode that is not asked
abbrev pub coded_so : Format → Form → List ℕ → Bool
coded_so f Integers ints = true
coded_so f Zeros ints = true
coded_so f (Multiples e) ints = multiples f e ints
coded_so f Flipped ints = others f ints
coded_so f (Lossy e planes) ints = true

-- what making integers asks of words
abbrev pub Ready : Format → Form → List ℕ → Type 0
Ready f Integers ws = Unit {0}
Ready f Zeros ws = Unit {0}
Ready f (Multiples e) ws = FieldsBelow f e ws
Ready f Flipped ws = Unit {0}
Ready f (Lossy e planes) ws = FieldsBelow f e ws

-- e, where there is one, is an exponent field
abbrev pub IsField : Format → Form → Type 0
IsField f Integers = Unit {0}
IsField f Zeros = Unit {0}
IsField f (Multiples e) = e ≤ ones f
IsField f Flipped = Unit {0}
IsField f (Lossy e planes) = e ≤ ones f

-- a block's form: its code is what stands in front, then the planes of its integers; what stands in front is not in the budget of the planes
pub record Formed (f : Format) (float exact : Bool) (d p lowest : ℕ) (ws : List ℕ) (form : Form) : Type 0 where
  pub code : uncut_to f float exact d p lowest ws
      ≡ head f form ++ cond (planes_follow form) (integers_code f exact d (planes_in form p) (integers_in f form ws)) []
  pub whole : (width : ℕ) → whole_at f float exact d p lowest width ws
      ≡ cond (planes_follow form) (whole_integers f exact d (planes_in form p) (width - length (head f form)) (integers_in f form ws)) 0
  pub few : planes_in form p ≤ p
  pub ready : Ready f form ws
  pub field : IsField f form

-- The library's bytes of a number are its lowest bytes, and its number of eight bytes is theirs. Assumes nothing.
use Rattle.std.proofs.Common.{◌≡◌, ℕ, zero, suc, ◌+◌, ◌/◌, ◌%◌, ◌^◌, ◌<◌, ◌≤◌, List, [], ◌∷◌, ◌++◌, length, take, drop, get_or, set, replicate, refl, sym, ap, ap₂, ◌∙◌, w64, add-one, arith, length-append}
use Rattle.std.proofs.Math.Nat.{div-div-eq-div-mul, div-one, pow-suc, mul_comm}
use Rattle.std.proofs.lemmas.List.{take_more, length-take-le}
use Rattle.std.proofs.Math.Seq.{drop-cons, take-length}
use Rattle.std.specs.Int.{to_le_bytes, from_le_bytes, bytes_low_first, byte_at, sum_through, byte_worth}
use Rattle.bits.proofs.WriteLaws.{sets-append}
use Rattle.fpc_stream.specs.Bytes.{low_bytes, from_bytes}
use Rattle.fpc_stream.proofs.ByteLaws.{from_parts}
use Rattle.fpc_step.specs.Calls.{Appended}

byte_is : (i x : ℕ) → byte_at i x ≡ x / 256 ^ i % 256
byte_is zero x = rw div-one refl
byte_is (suc i) x = refl

next_is : (i x : ℕ) → x / 256 ^ suc i ≡ x / 256 ^ i / 256
next_is i x = rw (pow-suc, div-div-eq-div-mul) refl

low_first : (n k i x : ℕ) → n ≤ k → take n (bytes_low_first i k x) ≡ low_bytes n (x / 256 ^ i)
low_first zero k i x h = refl
low_first (suc n) zero i x h = absurd (omega arith)
low_first (suc n) (suc k) i x h =
    ap₂ (λ (b : ℕ) (l : List ℕ). b ∷ l) (byte_is i x) (low_first n k (suc i) x (omega arith) ∙ ap (low_bytes n) (next_is i x))

-- the first n of a number's eight bytes
pub first_bytes : (n x : ℕ) → n ≤ 8 → take n (to_le_bytes w64 x) ≡ low_bytes n x
first_bytes n x h = low_first n 8 0 x h ∙ ap (low_bytes n) (rw div-one refl)

one_byte : (bs : List ℕ) (k : ℕ) → k < length bs → from_bytes (take 1 (drop k bs)) ≡ get_or bs k 0
one_byte bs k h = rw (drop-cons bs k 0 h) (omega arith)

sum_is : (bs : List ℕ) (k : ℕ) → k < length bs → sum_through (λ i. byte_worth i (get_or bs i 0)) k ≡ from_bytes (take (k + 1) bs)
sum_is bs zero h = sym (one_byte bs 0 h)
sum_is bs (suc k) h =
    let e = sum_is bs k (omega arith) in
    let p : k + 1 ≡ suc k = add-one k in
    let q = from_parts (suc k) 1 bs (omega arith) in
    let r = one_byte bs (suc k) h in
    let m = mul_comm (get_or bs (suc k) 0) (256 ^ suc k) in
    rw (e, p, q, r, m)

-- the number of eight bytes
pub from_eight : (bs : List ℕ) → length bs ≡ 8 → from_le_bytes w64 bs ≡ from_bytes bs
from_eight bs l = sum_is bs 7 (omega arith) ∙ ap from_bytes (rw (← l) (take-length bs))

-- zeros above a number's bytes leave it as it is
pub from_padded : (bs : List ℕ) (k : ℕ) → from_bytes (bs ++ replicate k 0) ≡ from_bytes bs
from_padded [] zero = refl
from_padded [] (suc k) = let e = from_padded [] k in omega (arith, e)
from_padded (b ∷ bs) k = rw (from_padded bs k)

-- one byte more of those that are put
pub put_one : (out bytes : List ℕ) (at i next : ℕ) (out' : List ℕ) → i < length bytes → Appended out at (take i bytes) next out'
    → Appended out at (take (i + 1) bytes) (next + 1) (set out' next (get_or bytes i 0))
put_one out bytes at i next out' h a =
    record {
      moved = omega (arith, a.moved, length-take-le i bytes (omega arith), length-take-le (i + 1) bytes (omega arith));
      put = rw (a.moved, a.put, take_more bytes i 0 h, sets-append) refl;
    }

-- bytes after bytes
pub appended_then : (out xs : List ℕ) (at next : ℕ) (out' : List ℕ) → Appended out at xs next out' → (ys : List ℕ) (next' : ℕ) (out'' : List ℕ)
    → Appended out' next ys next' out'' → Appended out at (xs ++ ys) next' out''
appended_then out xs at next out' a ys next' out'' b =
    record {
      moved = omega (arith, a.moved, b.moved, length-append xs ys);
      put = rw (b.put, a.put, a.moved) (sym (sets-append out at xs ys));
    }

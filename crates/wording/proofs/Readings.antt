-- Laws of a number read from text: the characters before a place are read, and n is what they say, held one past the most.
use Prim.Native.Nat.{ℕ, ◌+◌, ◌-◌, ◌*◌, ◌^◌, ◌≤◌, ◌<◌, min}
use mathlib.Core.Path.{◌≡◌, refl, ◌∙◌}
use mathlib.Core.Bool.{Bool, true, false}
use mathlib.Core.List.{List, [], ◌∷◌, map}
use native.Mathlib.Omega.{arith}
use native.Mathlib.Nat.{le-mul_of_pos_right, add-mul, mul_assoc, pow-zero, pow-succ'}
use borrow.Author.Tests.{lt-ltb, le-leb, lt-leb, leb-true, leb-false}
use lib.Dec.{leb}
use lib.ListN.{length, length-map}
use Rattle.std.specs.declared.result.Result.TheVariants.{Ok, Err}
use Rattle.word.specs.Choices.{if◌then◌otherwise◌}
use Rattle.word.specs.Digits.{numeral}
use Rattle.wording.specs.declared.numbers.NumberError.TheVariants.{Over, Wrong}
use Rattle.wording.specs.FromText.{digit_of, is_digit, are_digits, from_text_of}
use Rattle.wording.specs.ForCode.Readings.{followed, read_from}

-- The digits one by one are the number that all of them say.
followed_numeral : (base n : ℕ) (cs : List ℕ) → followed base n cs ≡ n * base ^ length cs + numeral base (map digit_of cs)
unfolding followed numeral
followed_numeral base n [] = rw (pow-zero base) (omega arith)
followed_numeral base n (c ∷ cs) =
    followed_numeral base (n * base + digit_of c) cs
    ∙ rw (length-map cs digit_of, add-mul (n * base) (digit_of c) (base ^ length cs), mul_assoc n base (base ^ length cs), pow-succ' base (length cs)) (omega arith)

followed_over : (base most n : ℕ) (cs : List ℕ) → 0 < base → most < n → most < followed base n cs
unfolding followed
followed_over base most n [] b h = h
followed_over base most n (c ∷ cs) b h = followed_over base most (n * base + (c - 48)) cs b (omega (arith, le-mul_of_pos_right n b))

over_same : (base most n m : ℕ) (cs : List ℕ) → 0 < base → most < n → most < m → read_from base most n cs ≡ read_from base most m cs
unfolding read_from if◌then◌otherwise◌
over_same base most n m cs b h k =
    rw (lt-leb (followed base n cs) most (followed_over base most n cs b h), lt-leb (followed base m cs) most (followed_over base most m cs b k))

pub read_none : (text : List ℕ) (base most : ℕ) → length text ≡ 0 → Err Wrong ≡ from_text_of text base most
unfolding from_text_of
read_none [] base most e = refl
read_none (c ∷ cs) base most e = absurd (omega (arith, e))

pub read_start : (text : List ℕ) (base most : ℕ) → (length text ≡ 0 → ⊥) → from_text_of text base most ≡ read_from base most 0 text
unfolding from_text_of read_from
read_start [] base most h = absurd (h refl)
read_start (c ∷ cs) base most h =
    let e : followed base 0 (c ∷ cs) ≡ numeral base (map digit_of (c ∷ cs)) = followed_numeral base 0 (c ∷ cs) ∙ omega arith in
    rw e

-- A character that is no digit.
pub read_wrong : (base most n c : ℕ) (cs : List ℕ) → is_digit base c ≡ false → read_from base most n (c ∷ cs) ≡ Err Wrong
unfolding read_from are_digits if◌then◌otherwise◌
read_wrong base most n c cs e = rw e

digit_more : (base most n c : ℕ) (cs : List ℕ) → 48 ≤ c → c - 48 < base → read_from base most n (c ∷ cs) ≡ read_from base most (n * base + (c - 48)) cs
unfolding read_from are_digits followed if◌then◌otherwise◌
digit_more base most n c cs l m = rw (le-leb 48 c l, lt-ltb (c - 48) base m)

pub read_in : (base most n : ℕ) → n ≤ most → read_from base most n [] ≡ Ok n
unfolding read_from are_digits followed if◌then◌otherwise◌
read_in base most n l = rw (le-leb n most l)

pub read_over : (base most n : ℕ) → most < n → read_from base most n [] ≡ Err Over
unfolding read_from are_digits followed if◌then◌otherwise◌
read_over base most n l = rw (lt-leb n most l)

pub read_more : (base most n c v : ℕ) (cs : List ℕ) → 48 ≤ c → c - 48 < base → v ≡ min (n * base + (c - 48)) (most + 1) → read_from base most n (c ∷ cs) ≡ read_from base most v cs
read_more base most n c v cs l m e = by_test (leb (n * base + (c - 48)) most) refl
  where
    by_test : (t : Bool) → leb (n * base + (c - 48)) most ≡ t → read_from base most n (c ∷ cs) ≡ read_from base most v cs
    by_test true t =
        let s : v ≡ n * base + (c - 48) = omega (arith, leb-true (n * base + (c - 48)) most t) in
        digit_more base most n c cs l m ∙ rw s
    by_test false t =
        let h : most < n * base + (c - 48) = leb-false (n * base + (c - 48)) most t in
        digit_more base most n c cs l m ∙ over_same base most (n * base + (c - 48)) v cs (omega arith) h (omega arith)

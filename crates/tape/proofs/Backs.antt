-- The words of a file give its bytes back, and the bytes of a core its words: by the law of digits, word by word.
use Prim.Native.Nat.{ℕ, zero, suc, ◌+◌, ◌*◌, ◌^◌, ◌<◌, ◌≤◌}
use mathlib.Core.Path.{◌≡◌, refl, ◌∙◌, subst}
use mathlib.Core.Bool.{Bool, true, false, ◌&&◌}
use mathlib.Core.List.{List, [], ◌∷◌}
use native.Mathlib.Omega.{arith}
use borrow.Author.Tests.{lt-ltb, le-leb, ltb-true, ltb-false, leb-true}
use lib.Dec.{ltb, leb}
use lib.ListN.{length, take, drop, get_or, length-drop, take-append-drop, get_or-eq_default}
use lib.Seq.{length-take-le, take_at, drop_at, get_or-take, get_or-drop}
use Rattle.word.specs.Core.{length_fits, words_fit}
use Rattle.word.specs.Digits.{digits, numeral, Below}
use Rattle.word.proofs.Places.{digits_length, digits_back, numeral_back, numeral_lt}
use Rattle.tape.specs.Files.{words_of, bytes_of}

-- ---- bytes Below 256

below_take : (n : ℕ) (bytes : List ℕ) → n ≤ length bytes → Below 256 bytes → Below 256 (take n bytes)
below_take n bytes l b i = by (ltb i n) refl
  where
    by : (t : Bool) → ltb i n ≡ t → get_or (take n bytes) i 0 < 256
    by true e = rw (get_or-take n bytes i 0 (ltb-true i n e)) (b i)
    by false e = rw (get_or-eq_default (take n bytes) 0 {n = i} (omega (arith, length-take-le n bytes l, ltb-false i n e))) (omega arith)

below_drop : (n : ℕ) (bytes : List ℕ) → Below 256 bytes → Below 256 (drop n bytes)
below_drop n bytes b i = rw (get_or-drop n bytes i 0) (b (n + i))

-- ---- the words of a file, and the bytes of a core

pub words_back : (n : ℕ) (bytes : List ℕ) → Below 256 bytes → length bytes ≡ 6 * n → bytes_of (words_of n bytes) ≡ bytes
unfolding words_of bytes_of
words_back zero [] b l = refl
words_back zero (d ∷ ds) b l = absurd (omega arith)
words_back (suc n) bytes b l =
    let six : length (take 6 bytes) ≡ 6 = length-take-le 6 bytes (omega arith) in
    let first : digits 256 6 (numeral 256 (take 6 bytes)) ≡ take 6 bytes =
    subst (λ (k : ℕ). digits 256 k (numeral 256 (take 6 bytes)) ≡ take 6 bytes) six (numeral_back 256 (take 6 bytes) (omega arith) (below_take 6 bytes (omega arith) b)) in
    let rest : bytes_of (words_of n (drop 6 bytes)) ≡ drop 6 bytes =
    words_back n (drop 6 bytes) (below_drop 6 bytes b) (length-drop 6 bytes ∙ omega arith) in
    rw (first, rest) (take-append-drop 6 bytes)

pub words_fit_is : (n : ℕ) (bytes : List ℕ) → Below 256 bytes → 6 * n ≤ length bytes → words_fit (words_of n bytes) ≡ true
unfolding words_of words_fit
words_fit_is zero bytes b l = refl
words_fit_is (suc n) bytes b l =
    let six : length (take 6 bytes) ≡ 6 = length-take-le 6 bytes (omega arith) in
    let small : numeral 256 (take 6 bytes) < 2 ^ 48 =
    subst (λ (k : ℕ). numeral 256 (take 6 bytes) < 256 ^ k) six (numeral_lt 256 (take 6 bytes) (below_take 6 bytes (omega arith) b)) in
    rw (lt-ltb (numeral 256 (take 6 bytes)) (2 ^ 48) small) (words_fit_is n (drop 6 bytes) (below_drop 6 bytes b) (omega (arith, length-drop 6 bytes)))

both : (a b : Bool) → (a && b) ≡ true → (a ≡ true) × (b ≡ true)
both true b e = (refl, e)
both false b e = (e, absurd (let z : ◌≡◌ {A = ℕ} 0 1 = cc in omega arith))

pub bytes_back : (core : List ℕ) → words_fit core ≡ true → words_of (length core) (bytes_of core) ≡ core
unfolding words_of bytes_of words_fit
bytes_back [] f = refl
bytes_back (w ∷ ws) f =
    let six : length (digits 256 6 w) ≡ 6 = digits_length 256 6 w in
    let small : w < 2 ^ 48 = ltb-true w (2 ^ 48) (both (ltb w (2 ^ 48)) (words_fit ws) f).0 in
    let word : numeral 256 (digits 256 6 w) ≡ w = digits_back 256 6 w (omega arith) small in
    rw (take_at (digits 256 6 w) (bytes_of ws) 6 six, drop_at (digits 256 6 w) (bytes_of ws) 6 six, word, bytes_back ws (both (ltb w (2 ^ 48)) (words_fit ws) f).1)

pub length_fits_is : (core : List ℕ) → 0 < length core → length core ≤ 32768 → length_fits core ≡ true
unfolding length_fits
length_fits_is core s f = rw (lt-ltb 0 (length core) s, le-leb (length core) 32768 f)

pub length_in : (core : List ℕ) → length_fits core ≡ true → (0 < length core) × (length core ≤ 32768)
unfolding length_fits
length_in core e =
    let p : (ltb 0 (length core) ≡ true) × (leb (length core) 32768 ≡ true) = both (ltb 0 (length core)) (leb (length core) 32768) e in
    (ltb-true 0 (length core) p.0, leb-true (length core) 32768 p.1)

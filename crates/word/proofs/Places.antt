-- The one law of digits, over the base and the count: digits and numeral undo each other. And the steps of the two loops.
use Prim.Native.Nat.{ℕ, zero, suc, ◌+◌, ◌-◌, ◌*◌, ◌/◌, ◌%◌, ◌^◌, ◌≤◌, ◌<◌}
use mathlib.Core.Path.{◌≡◌, refl, sym, ◌∙◌, ap, subst}
use mathlib.Core.List.{List, [], ◌∷◌}
use mathlib.Core.Option.{some, none}
use native.Mathlib.Nat.{pow-zero, pow-succ', pow-suc, mod-one, div-one, sub_self, mod-eq_of_lt, one-le-pow, mod-lt, div-div-eq-div-mul, mul-le-mul_left}
use native.Mathlib.Omega.{arith}
use native.Mathlib.Numerals.{add-one}
use borrow.Author.Tests.{lt-ltb, le-ltb}
use lib.Arith.{mod-mul, digits_div, digits_mod, digits_lt}
use lib.ListN.{length, get_or, drop, set, length-set, length-drop, drop_of_length-le}
use lib.Seq.{drop-cons, get_or-set_same, drop-set-lt}
use Rattle.word.specs.Digits.{digits, numeral, Below, if_word}
use Rattle.word.specs.Choices.{if◌then◌otherwise◌}

pub digits_length : (base k n : ℕ) → length (digits base k n) ≡ k
unfolding digits
digits_length base zero n = refl
digits_length base (suc k) n = ap suc (digits_length base k n)

-- The number is what its digits say, up to the power that they reach.
pub numeral_digits : (base k n : ℕ) → 0 < base → numeral base (digits base k n) ≡ n % base ^ k
unfolding digits numeral
numeral_digits base zero n h = sym (ap (λ (m : ℕ). n % m) (pow-zero base) ∙ mod-one n)
numeral_digits base (suc k) n h =
    rw (digits_length base k n, numeral_digits base k n h, pow-succ' base k, mod-mul n h (one-le-pow k base h))

-- A number below the power comes back from its digits.
pub digits_back : (base k n : ℕ) → 0 < base → n < base ^ k → numeral base (digits base k n) ≡ n
digits_back base k n h l = numeral_digits base k n h ∙ mod-eq_of_lt l

-- Digits below the base say a number below the power that they reach.
pub numeral_lt : (base : ℕ) (ds : List ℕ) → Below base ds → numeral base ds < base ^ length ds
unfolding numeral
numeral_lt base [] b = rw (pow-zero base) (omega arith)
numeral_lt base (d ∷ ds) b = rw (pow-succ' base (length ds)) (digits_lt (b 0) (numeral_lt base ds (λ i. b (suc i))))

-- The last k digits look only at the number up to the power that they reach.
digits_same : (base k n m : ℕ) → 0 < base → n % base ^ k ≡ m % base ^ k → digits base k n ≡ digits base k m
unfolding digits
digits_same base zero n m h e = refl
digits_same base (suc k) n m h e =
    let p : 0 < base ^ k = one-le-pow k base h in
    let e' : n / base ^ k % base * base ^ k + n % base ^ k ≡ m / base ^ k % base * base ^ k + m % base ^ k =
    sym (mod-mul n h p) ∙ ap (λ (q : ℕ). n % q) (sym (pow-succ' base k)) ∙ e ∙ ap (λ (q : ℕ). m % q) (pow-succ' base k) ∙ mod-mul m h p in
    let top : n / base ^ k % base ≡ m / base ^ k % base =
    sym (digits_div (n / base ^ k % base) (mod-lt n p)) ∙ ap (λ (q : ℕ). q / base ^ k) e' ∙ digits_div (m / base ^ k % base) (mod-lt m p) in
    let low : n % base ^ k ≡ m % base ^ k =
    sym (digits_mod (n / base ^ k % base) (mod-lt n p)) ∙ ap (λ (q : ℕ). q % base ^ k) e' ∙ digits_mod (m / base ^ k % base) (mod-lt m p) in
    rw (top, digits_same base k n m h low)

-- Digits below the base come back from their number.
pub numeral_back : (base : ℕ) (ds : List ℕ) → 0 < base → Below base ds → digits base (length ds) (numeral base ds) ≡ ds
unfolding digits numeral
numeral_back base [] h b = refl
numeral_back base (d ∷ ds) h b =
    let r : numeral base ds < base ^ length ds = numeral_lt base ds (λ i. b (suc i)) in
    let top : (d * base ^ length ds + numeral base ds) / base ^ length ds ≡ d = digits_div d r in
    let low : (d * base ^ length ds + numeral base ds) % base ^ length ds ≡ numeral base ds % base ^ length ds =
    digits_mod d r ∙ sym (mod-eq_of_lt r) in
    rw (top, mod-eq_of_lt (b 0), digits_same base (length ds) (d * base ^ length ds + numeral base ds) (numeral base ds) h low, numeral_back base ds h (λ i. b (suc i)))

-- ---- the loop that writes digits from the last to the first: `at` digits of m are still to be written

pub fill_none : (base n m : ℕ) (out : List ℕ) → length out ≡ m → drop m out ≡ digits base (m - m) n
unfolding digits
fill_none base n m out l = rw (sub_self m) (drop_of_length-le out {i = m} (omega arith))

pub fill_start : (base n m : ℕ) → n ≡ n / base ^ (m - m)
fill_start base n m = rw (sub_self m, pow-zero base, div-one n)

pub fill_left : (base n at m left : ℕ) → 0 < at → at ≤ m → left ≡ n / base ^ (m - at) → left / base ≡ n / base ^ (m - (at - 1))
fill_left base n at m left h l e =
    let k : m - (at - 1) ≡ suc (m - at) = omega arith in
    rw (e, k, pow-suc base (m - at)) (div-div-eq-div-mul n (base ^ (m - at)) base)

pub fill_end : (base n at m : ℕ) (out : List ℕ) → at ≤ 0 → length out ≡ m → drop at out ≡ digits base (m - at) n → out ≡ digits base m n
fill_end base n at m out h l e =
    let z : at ≡ 0 = omega arith in
    let k : m - 0 ≡ m = omega arith in
    subst (λ (q : ℕ). out ≡ digits base q n) k (subst (λ (q : ℕ). drop q out ≡ digits base (m - q) n) z e)

pub fill_more : (base n at m left : ℕ) (out : List ℕ) → 0 < at → at ≤ m → length out ≡ m → left ≡ n / base ^ (m - at) → drop at out ≡ digits base (m - at) n
    → drop (at - 1) (set out (at - 1) (left % base)) ≡ digits base (m - (at - 1)) n
unfolding digits
fill_more base n at m left out h l len e d =
    let k : m - (at - 1) ≡ suc (m - at) = omega arith in
    let s : suc (at - 1) ≡ at = omega arith in
    let i : at - 1 < length out = omega arith in
    drop-cons (set out (at - 1) (left % base)) (at - 1) 0 (subst (λ (q : ℕ). at - 1 < q) (sym (length-set out (at - 1) (left % base))) i)
    ∙ rw (get_or-set_same out (at - 1) (left % base) 0 i, drop-set-lt (suc (at - 1)) out (at - 1) (left % base) (omega arith), s, d, e, k)

-- ---- the loop that reads digits from the first to the last: n is read, from i on they are still to be read

pub gather_more : (base n i d : ℕ) (ds : List ℕ) → i < length ds → d ≡ get_or ds i 0 → numeral base ds ≡ n * base ^ (length ds - i) + numeral base (drop i ds)
    → numeral base ds ≡ (n * base + d) * base ^ (length ds - (i + 1)) + numeral base (drop (i + 1) ds)
unfolding numeral
gather_more base n i d ds h r e =
    let k : length ds - i ≡ suc (length ds - (i + 1)) = omega arith in
    let l : length (drop (suc i) ds) ≡ length ds - (i + 1) = length-drop (suc i) ds ∙ omega arith in
    e ∙ rw (k, pow-succ' base (length ds - (i + 1)), drop-cons ds i 0 h, l, add-one i, r) (omega arith)

pub gather_end : (base n i : ℕ) (ds : List ℕ) → i ≤ length ds → length ds ≤ i → n < 2 ^ 48 → numeral base ds ≡ n * base ^ (length ds - i) + numeral base (drop i ds)
    → some n ≡ if_word (numeral base ds)
unfolding numeral if◌then◌otherwise◌
gather_end base n i ds h l small e =
    let z : length ds - i ≡ 0 = omega arith in
    let f : numeral base ds ≡ n = e ∙ rw (z, drop_of_length-le ds l, pow-zero base) (omega arith) in
    rw (f, lt-ltb n (2 ^ 48) small)

pub gather_past : (base n i : ℕ) (ds : List ℕ) → 0 < base → 2 ^ 48 ≤ n → numeral base ds ≡ n * base ^ (length ds - i) + numeral base (drop i ds)
    → none ≡ if_word (numeral base ds)
unfolding if◌then◌otherwise◌
gather_past base n i ds h large e =
    let p : 1 ≤ base ^ (length ds - i) = one-le-pow (length ds - i) base h in
    let q : n * 1 ≤ n * base ^ (length ds - i) = mul-le-mul_left n p in
    rw (le-ltb (numeral base ds) (2 ^ 48) (omega arith))

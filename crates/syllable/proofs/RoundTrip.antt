-- Encoding and decoding undo each other: each of the 4,096 syllables is read as exactly one proper case.
-- Assumes nothing.
use mathlib.Core.Path.{◌≡◌, refl, ◌∙◌, sym, ap, subst⁻¹}
use mathlib.Core.List.{List, [], ◌∷◌, map, Memᴰ}
use Prim.Native.Nat.{ℕ, zero, suc, ◌+◌, ◌*◌, ◌/◌, ◌%◌, ◌<◌}
use native.Mathlib.Nat.{add-zero}
use native.Mathlib.Omega.{arith}
use Rattle.syllable.specs.declared.Operator.{Operator}
use Rattle.syllable.specs.declared.Operator.TheVariants.{NotBuilt}
use Rattle.syllable.specs.declared.Syllable.{Syllable}
use Rattle.syllable.specs.declared.Syllable.TheVariants.{Litc, Opdc, Desc, Operator as Operates}
use Rattle.syllable.specs.Codes.{operator_code, listed}
use Rattle.syllable.specs.Decoding.{sort_of, operator_in, decode_as, decode_of}
use Rattle.syllable.specs.Encoding.{encode_of}
use Rattle.syllable.proofs.Finding.{Found, here, nowhere, found}
use Rattle.syllable.specs.ForTheorems.Propers.{Unlisted, Proper, litc, opdc, desc, built, others}

-- the syllable that an operator's code is read as
abbrev back : Operator → Syllable
back o = decode_of (operator_code o)

-- antt reads the code of each listed operator, and compares
listed_back : map back listed ≡ map Operates listed
unfolding decode_of
listed_back = refl

back_at : (os : List Operator) {o : Operator} → map back os ≡ map Operates os → Memᴰ o os → back o ≡ Operates o
back_at [] e m = elim m [ ]
back_at (x ∷ os) e (Memᴰ.head s) =
    let b : back x ≡ Operates x = cc in
    rw s b
back_at (x ∷ os) e (Memᴰ.tail m) =
    let b : map back os ≡ map Operates os = cc in
    back_at os b m

by_bits : (k r : ℕ) → k < 1024 → r < 4 → decode_of (4 * (k % 1024) + r) ≡ decode_as (sort_of r) (4 * k + r)
unfolding decode_of
by_bits k r h b =
    let same : 4 * (k % 1024) + r ≡ 4 * k + r = omega arith in
    let last : (4 * k + r) % 4 ≡ r = omega arith in
    rw (same, last)

first_ten : (k r : ℕ) → r < 4 → (4 * k + r) / 4 ≡ k
first_ten k r h = omega arith

unlisted_back : (k p : ℕ) (o : Operator) → Found 1 listed (4 * k + 1) p o → Unlisted (4 * k + 1) → o ≡ NotBuilt k
unlisted_back k p o (here i m c l e f) u = absurd (u o m c)
unlisted_back k p o (nowhere none e f) u = f ∙ ap NotBuilt (first_ten k 1 (omega arith))

pub decode_encode : (s : Syllable) → Proper s → decode_of (encode_of s) ≡ s
decode_encode (Litc k) (litc h) = ap decode_of (sym (add-zero _)) ∙ by_bits k 0 h (omega arith) ∙ ap Litc (first_ten k 0 (omega arith))
decode_encode (Opdc k) (opdc h) = by_bits k 2 h (omega arith) ∙ ap Opdc (first_ten k 2 (omega arith))
decode_encode (Desc k) (desc h) = by_bits k 3 h (omega arith) ∙ ap Desc (first_ten k 3 (omega arith))
decode_encode (Operates o) (built m) = back_at listed listed_back m
decode_encode (Operates (NotBuilt k)) (others h u) =
    by_bits k 1 h (omega arith) ∙ ap Operates (unlisted_back k _ (operator_in listed (4 * k + 1)) (found 1 listed (4 * k + 1)) u)

code_found : (y p : ℕ) (o : Operator) → y < 4096 → y % 4 ≡ 1 → Found 1 listed y p o → operator_code o ≡ y
code_found y p o h b (here i m c l e f) = c
code_found y p o h b (nowhere none e f) = ap operator_code f ∙ omega arith

encode_as : (y r : ℕ) → y < 4096 → y % 4 ≡ r → encode_of (decode_as (sort_of r) y) ≡ y
encode_as y zero h b = omega arith
encode_as y (suc zero) h b = code_found y _ (operator_in listed y) h b (found 1 listed y)
encode_as y (suc (suc zero)) h b = omega arith
encode_as y (suc (suc (suc r))) h b = omega arith

pub encode_decode : (y : ℕ) → y < 4096 → encode_of (decode_of y) ≡ y
unfolding decode_of
encode_decode y h = encode_as y (y % 4) h refl

ten : (y : ℕ) → y < 4096 → y / 4 < 1024
ten y h = omega arith

proper_found : (y p : ℕ) (o : Operator) → y < 4096 → y % 4 ≡ 1 → Found 1 listed y p o → Proper (Operates o)
proper_found y p o h b (here i m c l e f) = built m
proper_found y p o h b (nowhere none e f) =
    let back : 4 * (y / 4) + 1 ≡ y = omega arith in
    subst⁻¹ (λ (x : Operator). Proper (Operates x)) f (others (omega arith) (subst⁻¹ Unlisted back none))

proper_as : (y r : ℕ) → y < 4096 → y % 4 ≡ r → Proper (decode_as (sort_of r) y)
proper_as y zero h b = litc (ten y h)
proper_as y (suc zero) h b = proper_found y _ (operator_in listed y) h b (found 1 listed y)
proper_as y (suc (suc zero)) h b = opdc (ten y h)
proper_as y (suc (suc (suc r))) h b = desc (ten y h)

pub decode_proper : (y : ℕ) → y < 4096 → Proper (decode_of y)
unfolding decode_of
decode_proper y h = proper_as y (y % 4) h refl

pub one_case : (y : ℕ) (s : Syllable) → Proper s → encode_of s ≡ y → s ≡ decode_of y
one_case y s p e = sym (decode_encode s p) ∙ ap decode_of e

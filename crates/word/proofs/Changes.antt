-- Laws of fields: what the machine's shifts give, what a field of a changed word holds, and that a changed word stays a word.
use Prim.Native.Nat.{ℕ, ◌+◌, ◌-◌, ◌*◌, ◌/◌, ◌%◌, ◌^◌, ◌≤◌, ◌<◌}
use mathlib.Core.Path.{◌≡◌, sym, ◌∙◌, ap, subst}
use native.Mathlib.Nat.{mod-lt, mod-le, one-mul, div-add-mod', div-mul-le_self, mul-le-mul_right, le_trans, lt_of_le_of_lt, mod-eq_of_lt}
use native.Mathlib.Omega.{arith}
use borrow.Author.Tests.{le-leb}
use lib.Pow.{pow_pos, pow-add, shl_exact, shr_lt}
use lib.Arith.{digits_lt}
use mir.Syntax.{w64}
use mir.Val.{Fits}
use Rattle.word.specs.Choices.{if◌then◌otherwise◌}
use Rattle.word.specs.Field.{worth, span, field, bits_of, placed, with_field}

-- The machine's 1 << n.
pub power : (n : ℕ) → n < 64 → 1 * 2 ^ n % 2 ^ 64 ≡ 2 ^ n
power n h = shl_exact {a = 1} 1 n 64 (omega arith) (omega arith) ∙ one-mul (2 ^ n)

pub low_of_is : (x n : ℕ) → n < 64 → x % (1 * 2 ^ n % 2 ^ 64) ≡ x % 2 ^ n
low_of_is x n h = rw power

-- Bits that are there.
pub bits_yes : (w first last : ℕ) → first ≤ last → last ≤ 47 → field w first last ≡ bits_of w first last
unfolding if◌then◌otherwise◌
bits_yes w first last h l = rw (le-leb first last h, le-leb last 47 l)

-- What the machine's shifts give for a placed field.
pub placed_is : (x first last : ℕ) → first ≤ last → last ≤ 47
    → x % (1 * 2 ^ (last + 1 - first) % 2 ^ 64) * 2 ^ (47 - last) % 2 ^ 64 ≡ placed first last x
placed_is x first last h l =
    ap (λ (y : ℕ). y * 2 ^ (47 - last) % 2 ^ 64) (low_of_is x (last + 1 - first) (omega arith))
    ∙ shl_exact (last + 1 - first) (47 - last) 64 (mod-lt x (pow_pos (last + 1 - first))) (omega arith)

-- A field where it stands is no more than the word.
pub field_le : (w first last : ℕ) → field w first last * worth last ≤ w
field_le w first last = le_trans (mul-le-mul_right (worth last) (mod-le (w / worth last) (span first last))) (div-mul-le_self w (worth last))

pub shifted_is : (w first last : ℕ) → w < 2 ^ 64 → field w first last * worth last % 2 ^ 64 ≡ field w first last * worth last
shifted_is w first last h = mod-eq_of_lt (lt_of_le_of_lt (field_le w first last) h)

-- A changed word as what stands above the field, the field, and what stands below it.
pub parts : (w first last x : ℕ)
    → with_field w first last x
    ≡ (w / worth last / span first last * span first last + x % span first last) * worth last + w % worth last
parts w first last x =
    let e : (w / worth last / span first last * span first last + w / worth last % span first last) * worth last + w % worth last ≡ w =
    ap (λ (y : ℕ). y * worth last + w % worth last) (div-add-mod' (w / worth last) (span first last)) ∙ div-add-mod' w (worth last) in
    omega arith

-- A changed word has no more bits than the word.
pub changed_lt : (k w first last x : ℕ) → first ≤ last → last ≤ 47 → 48 ≤ k → w < 2 ^ k → with_field w first last x < 2 ^ k
changed_lt k w first last x h l hk hw =
    let e : k ≡ k - (48 - first) + (last + 1 - first) + (47 - last) = omega arith in
    let above : w / worth last / span first last < 2 ^ (k - (48 - first)) =
    shr_lt (k - (48 - first)) (last + 1 - first) (shr_lt (k - (48 - first) + (last + 1 - first)) (47 - last) (subst (λ (n : ℕ). w < 2 ^ n) e hw)) in
    rw (parts w first last x)
    (subst (λ (n : ℕ). (w / worth last / span first last * span first last + x % span first last) * worth last + w % worth last < n) (sym (ap (λ (n : ℕ). 2 ^ n) e ∙ pow-add 2 (k - (48 - first) + (last + 1 - first)) (47 - last) ∙ ap (λ (n : ℕ). n * worth last) (pow-add 2 (k - (48 - first)) (last + 1 - first))))
    (digits_lt (digits_lt above (mod-lt x (pow_pos (last + 1 - first)))) (mod-lt w (pow_pos (47 - last)))))

-- ---- the word with another field, as the machine makes it

module _ (w first last : ℕ) (f : ℕ) where
  pub written : (x n : ℕ) → w < 2 ^ 64 → f ≡ field w first last → n ≡ placed first last x → w - f * 2 ^ (47 - last) % 2 ^ 64 + n ≡ with_field w first last x
  written x n h e p = rw (e, shifted_is w first last h, p)

  pub written_fits : (x n : ℕ) → first ≤ last → last ≤ 47 → w < 2 ^ 64 → f ≡ field w first last → n ≡ placed first last x → Fits w64 (w - f * 2 ^ (47 - last) % 2 ^ 64 + n)
  written_fits x n a b h e p = record { fits = subst (λ (y : ℕ). y < 2 ^ 64) (sym (written x n h e p)) (changed_lt 64 w first last x a b (omega arith) h) }

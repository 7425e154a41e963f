-- The cells' kinds, written from the last record to the first: the first record of a cell wins.
use Prim.Native.Nat.{ℕ, suc, ◌+◌, ◌-◌, ◌≤◌, ◌<◌}
use mathlib.Core.Path.{◌≡◌, refl, sym, ◌∙◌, ap}
use mathlib.Core.Bool.{Bool, true, false, ◌&&◌}
use mathlib.Core.List.{List}
use native.Mathlib.Omega.{arith}
use borrow.Author.Rules.{rules}
use borrow.Author.Tests.{leb-true, leb-false, ltb-true, ltb-false}
use borrow.Rule.Slice.PartMut.{put_mid}
use lib.Dec.{ltb, leb, eqb}
use lib.ListN.{length, get_or, replicate, length-replicate, get_or-replicate, get_or-eq_default}
use Rattle.std.proofs.lemmas.List.{places}
use Rattle.inspector.specs.declared.segments.Kind.{Kind}
use Rattle.inspector.specs.declared.segments.Kind.TheVariants.{Closed, Number as NumberCell, Array}
use Rattle.sheet.specs.Sheets.{entry_at, entries, cell_in, cell_of}
use Rattle.inspector.specs.ForCode.Forms.{kind_told, Kinds}

-- A cell's kind, by the number of it.
pub is_number : (k : ℕ) → NumberCell ≡ kind_told k → eqb k 3 ≡ true
unfolding kind_told
is_number k e = by (eqb k 3) (eqb k 4) e
  where
    by : (s t : Bool) → NumberCell ≡ elim s [ true ↦ NumberCell | false ↦ elim t [ true ↦ Array | false ↦ Closed ] ] → s ≡ true
    by true t e = refl
    by false true e = cc
    by false false e = cc

pub is_array : (k : ℕ) → Array ≡ kind_told k → (eqb k 3 ≡ false) × (eqb k 4 ≡ true)
unfolding kind_told
is_array k e = by (eqb k 3) (eqb k 4) e
  where
    by : (s t : Bool) → Array ≡ elim s [ true ↦ NumberCell | false ↦ elim t [ true ↦ Array | false ↦ Closed ] ] → (s ≡ false) × (t ≡ true)
    by true t e = cc
    by false true e = (refl, refl)
    by false false e = cc

pub is_closed : (k : ℕ) → Closed ≡ kind_told k → (eqb k 3 ≡ false) × (eqb k 4 ≡ false)
unfolding kind_told
is_closed k e = by (eqb k 3) (eqb k 4) e
  where
    by : (s t : Bool) → Closed ≡ elim s [ true ↦ NumberCell | false ↦ elim t [ true ↦ Array | false ↦ Closed ] ] → (s ≡ false) × (t ≡ false)
    by true t e = cc
    by false true e = cc
    by false false e = (refl, refl)

pub not_number : (k : ℕ) {kind : Kind} → kind ≡ kind_told k → (kind ≡ NumberCell → ⊥) → false ≡ eqb k 3
unfolding kind_told
not_number k {kind} e n = by (eqb k 3) refl
  where
    by : (s : Bool) → eqb k 3 ≡ s → false ≡ s
    by true f = absurd (n (e ∙ ap (λ (s : Bool). elim s [ true ↦ NumberCell | false ↦ elim (eqb k 4) [ true ↦ Array | false ↦ Closed ] ]) f))
    by false f = refl

-- A cell after n of them from a on were given a kind.
painted : (kinds : List Kind) (a n : ℕ) (k : Kind) (c : ℕ) → a + n ≤ length kinds → (s t : Bool) → leb a c ≡ s → ltb c (a + n) ≡ t →
    get_or (put_mid a n kinds (replicate n k)) c Closed ≡ elim (s && t) [ true ↦ k | false ↦ get_or kinds c Closed ]
painted kinds a n k c l true true e f =
    let p : a ≤ c = leb-true a c e in
    let q : c < a + n = ltb-true c (a + n) f in
    search (rules, places)
painted kinds a n k c l true false e f =
    let p : a ≤ c = leb-true a c e in
    let q : a + n ≤ c = ltb-false c (a + n) f in
    search (rules, places)
painted kinds a n k c l false t e f =
    let p : c < a = leb-false a c e in
    search (rules, places)

-- The cells as the records from i on name them.
pub record Filled (kinds : List Kind) (sheet : List ℕ) (i : ℕ) : Type 0 where
  pub sized : length kinds ≡ 1024
  pub filled : (c : ℕ) → get_or kinds c Closed ≡ kind_told (cell_in sheet (entries sheet - i) i c)

closed : (c : ℕ) → get_or (replicate 1024 Closed) c Closed ≡ Closed
closed c = by (ltb c 1024) refl
  where
    by : (b : Bool) → ltb c 1024 ≡ b → get_or (replicate 1024 Closed) c Closed ≡ Closed
    by true e = get_or-replicate 1024 c Closed Closed (ltb-true c 1024 e)
    by false e =
        let l : length (replicate 1024 Closed) ≤ c = omega (arith, ltb-false c 1024 e, length-replicate {A = Kind} 1024 Closed) in
        get_or-eq_default (replicate 1024 Closed) Closed l

pub filled_none : (kinds : List Kind) (sheet : List ℕ) (i : ℕ) → i ≡ entries sheet → kinds ≡ replicate 1024 Closed → Filled kinds sheet i
unfolding kind_told
filled_none kinds sheet i e z =
    let k : entries sheet - i ≡ 0 = omega arith in
    record { sized = ap length z ∙ length-replicate 1024 Closed; filled = λ c. ap (λ (l : List Kind). get_or l c Closed) z ∙ closed c ∙ sym (ap (λ (n : ℕ). kind_told (cell_in sheet n i c)) k) }

module _ (kinds ys : List Kind) (sheet : List ℕ) (i a n k q : ℕ) (kind : Kind) (h : 0 < i) (l : i ≤ entries sheet)
    (ea : a ≡ (entry_at sheet (i - 1)).first) (en : n ≡ (entry_at sheet (i - 1)).count) (ek : kind ≡ kind_told (entry_at sheet (i - 1)).kind) (b : a + n ≤ 1024)
    (s : ys ≡ replicate q kind) (eq : q ≡ n) (er : k ≡ n) (f : Filled kinds sheet i) where
  chosen : (c : ℕ) (t : Bool) → elim t [ true ↦ kind | false ↦ get_or kinds c Closed ] ≡ kind_told (elim t [ true ↦ (entry_at sheet (i - 1)).kind | false ↦ cell_in sheet (entries sheet - i) (suc (i - 1)) c ])
  chosen c true = ek
  chosen c false =
      let k : i ≡ suc (i - 1) = omega arith in
      f.filled c ∙ ap (λ (m : ℕ). kind_told (cell_in sheet (entries sheet - i) m c)) k

  named : (c : ℕ) → kind_told (cell_in sheet (suc (entries sheet - i)) (i - 1) c) ≡ kind_told (cell_in sheet (entries sheet - (i - 1)) (i - 1) c)
  named c =
      let k : suc (entries sheet - i) ≡ entries sheet - (i - 1) = omega arith in
      ap (λ (m : ℕ). kind_told (cell_in sheet m (i - 1) c)) k

  tested : (c : ℕ) → (leb a c && ltb c (a + n)) ≡ (leb (entry_at sheet (i - 1)).first c && ltb c ((entry_at sheet (i - 1)).first + (entry_at sheet (i - 1)).count))
  tested c = rw (ea, en)

  room : length (put_mid a n kinds (replicate n kind)) ≡ length kinds
  room =
      let c : a + n ≤ length kinds = omega (arith, f.sized) in
      search (rules, places)

  put : put_mid a k kinds ys ≡ put_mid a n kinds (replicate n kind)
  put = rw (s, eq, er)

  pub filled_more : Filled (put_mid a k kinds ys) sheet (i - 1)
  filled_more =
      record {
        sized = ap length put ∙ room ∙ f.sized;
        filled = λ c.
            ap (λ (m : List Kind). get_or m c Closed) put
            ∙ painted kinds a n kind c (omega (arith, f.sized)) (leb a c) (ltb c (a + n)) refl refl
            ∙ chosen c (leb a c && ltb c (a + n))
            ∙ ap (λ (t : Bool). kind_told (elim t [ true ↦ (entry_at sheet (i - 1)).kind | false ↦ cell_in sheet (entries sheet - i) (suc (i - 1)) c ])) (tested c)
            ∙ named c;
      }

pub filled_all : (kinds : List Kind) (sheet : List ℕ) (i : ℕ) → i ≡ 3 → Filled kinds sheet i → Kinds kinds sheet
unfolding cell_of
filled_all kinds sheet i e f = record { kind = λ c. f.filled c ∙ ap (λ (m : ℕ). kind_told (cell_in sheet (entries sheet - m) m c)) e }

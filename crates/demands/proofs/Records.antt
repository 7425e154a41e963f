-- Rules 31 and 32 as facts: the ranges of a sheet, its cells within the table, its three stretches apart.
use Prim.Native.Nat.{ℕ, zero, suc, ◌+◌, ◌≤◌, ◌<◌}
use mathlib.Core.Path.{◌≡◌, refl, sym, ◌∙◌}
use mathlib.Core.Bool.{Bool, true, false, ◌&&◌, ◌||◌, false≢true}
use mathlib.Core.List.{List}
use native.Mathlib.Omega.{arith}
use borrow.Author.Tests.{lt-ltb}
use lib.Dec.{eqb, ltb, leb}
use Rattle.sheet.specs.declared.Entry.{Entry}
use Rattle.sheet.specs.Sheets.{entry_at, cell_in}
use Rattle.inspector.specs.Areas.{area, meets}
use Rattle.inspector.specs.Records.{ranged, cells_good}
use Rattle.demands.proofs.Tests.{shows_and, shows_lt, shows_le, shows_eq, shows}

-- Two stretches have no word in common.
abbrev pub Apart : ℕ → ℕ → ℕ → ℕ → Type 0
Apart a n b m = (j : ℕ) → a ≤ j → j < a + n → b ≤ j → j < b + m → ⊥

pub apart : (a n b m : ℕ) → meets (area a n) (area b m) ≡ false → Apart a n b m
apart a n b m e j p q s t =
    let yes' : meets (area a n) (area b m) ≡ true = rw (lt-ltb 0 n (omega arith), lt-ltb 0 m (omega arith), lt-ltb a (b + m) (omega arith), lt-ltb b (a + n) (omega arith)) in
    false≢true (sym e ∙ yes')

pub record Range (first_most low high : ℕ) (e : Entry) : Type 0 where
  pub first : e.first ≤ first_most
  pub least : low ≤ e.count
  pub most : e.count ≤ high

pub range : (kind first_most low high : ℕ) (e : Entry) → ranged kind first_most low high e ≡ true → Range first_most low high e
range kind first_most low high e h =
    let t = shows_and (shows_and (shows_and (shows_and (shows_eq e.kind kind) (shows_eq e.gap 0)) (shows_le e.first first_most)) (shows_le low e.count)) (shows_le e.count high) h in
    record { first = t.0.0.1; least = t.0.1; most = t.1 }

pub cells_in : (table floor : ℕ) (e : Entry) → cells_good table floor e ≡ true → e.first + e.count ≤ table
cells_in table floor e h =
    (shows_and
    (shows_and
    (shows_and (shows_and (shows (eqb e.kind 3 || eqb e.kind 4)) (shows_eq e.gap 0)) (shows_lt 0 e.count))
    (shows_le (e.first + e.count) table))
    (shows_le floor e.first) h).0.1

-- A named cell is within the table.
chosen : {P : Type 0} (b : Bool) (x y k : ℕ) → elim b [ true ↦ x | false ↦ y ] ≡ suc k → (b ≡ true → P) → (y ≡ suc k → P) → P
chosen true x y k e f g = f refl
chosen false x y k e f g = g e

pub cell_in_is : (sheet : List ℕ) (table n i c k : ℕ) → ((j : ℕ) → i ≤ j → j < i + n → (entry_at sheet j).first + (entry_at sheet j).count ≤ table) → cell_in sheet n i c ≡ suc k → c < table
cell_in_is sheet table zero i c k all e = absurd (omega arith)
cell_in_is sheet table (suc n) i c k all e =
    chosen (leb (entry_at sheet i).first c && ltb c ((entry_at sheet i).first + (entry_at sheet i).count)) _ _ k e
    (λ t. inside (shows_and (shows_le (entry_at sheet i).first c) (shows_lt c ((entry_at sheet i).first + (entry_at sheet i).count)) t).1 (all i (omega arith) (omega arith)))
    (λ t. cell_in_is sheet table n (suc i) c k (λ j p q. all j (omega arith) (omega arith)) t)
  where
    inside : {c x table : ℕ} → c < x → x ≤ table → c < table
    inside h l = omega arith

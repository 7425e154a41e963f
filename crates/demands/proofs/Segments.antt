-- A passed segment starts, and goes on, in states of which the invariant holds.
use Prim.Native.Nat.{ℕ, zero, suc, ◌+◌, ◌-◌, ◌*◌, ◌/◌, ◌%◌, ◌^◌, ◌<◌, ◌≤◌}
use mathlib.Core.Path.{◌≡◌, refl, sym, ◌∙◌, ap, subst}
use mathlib.Core.Logic.{inl, inr}
use mathlib.Core.Bool.{false}
use mathlib.Core.List.{List, []}
use native.Mathlib.Nat.{mod-lt}
use native.Mathlib.Omega.{arith}
use lib.Pow.{pow_pos}
use lib.ListN.{length, get_or}
use Rattle.word.specs.Layout.{flag_of}
use Rattle.machine.specs.Outcomes.{Res, on, ◌>>=◌}
use Rattle.machine.specs.States.{State}
use Rattle.machine.specs.Memory.{read_of}
use Rattle.machine.specs.Steps.{Ended, advanced_of, fetched_by, execute_of}
use Rattle.machine.proofs.Sizes.{in_core_on}
use Rattle.syllable.specs.Decoding.{decode_of}
use Rattle.syllable.specs.Positions.{syllable_of, next_of}
use Rattle.syllable.proofs.RoundTrip.{decode_proper}
use Rattle.sheet.specs.Sheets.{code_of, code_words_of}
use Rattle.inspector.specs.Scan.{Shape, shape_at, syllable_at}
use Rattle.demands.specs.Stays.{Open, start_of, Reaches}
use Rattle.demands.proofs.Passed.{Passed}
use Rattle.demands.proofs.Holds.{At, empty}
use Rattle.demands.proofs.Cores.{code_unnamed}
use Rattle.demands.proofs.Stacks.{rest_empty}
use Rattle.demands.proofs.Ends.{Inv, Good}
use Rattle.demands.proofs.Performs.{perform_good}

-- A syllable has 12 bits.
twelve_bits : (w l : ℕ) → syllable_of w l < 4096
unfolding syllable_of
twelve_bits w l =
    let e : 12 * l + 11 + 1 - 12 * l ≡ 12 = omega arith in
    subst (λ (n : ℕ). w / 2 ^ (47 - (12 * l + 11)) % 2 ^ (12 * l + 11 + 1 - 12 * l) < 2 ^ n) e (mod-lt _ (pow_pos (12 * l + 11 + 1 - 12 * l)))

read_on : (l : List ℕ) (m : ℕ) → m < length l → read_of l m ≡ on (get_or l m 0)
unfolding read_of ◌>>=◌
read_on l m h = rw (in_core_on (length l) m h)

module _ (core sheet : List ℕ) (ok : Passed core sheet) where
  advanced : (p : ℕ) (xs : Shape) (u : State) → At core sheet p xs u → At core sheet (next_of p) xs (advanced_of u)
  advanced p xs u v =
      record {
        kept = v.kept;
        set = record { table = v.set.table; level = v.set.level; place = turn (4 * u.regs.c + u.regs.l) p v.set.place; low = omega arith };
        room = v.room;
        mid = v.mid;
        top = v.top;
        rest = v.rest;
      }
    where
      turn : (n p : ℕ) → n ≡ p → 4 * (next_of n / 4) + next_of n % 4 ≡ next_of p
      turn n p e = omega arith

  -- The syllable fetched is the inspected one.
  module _ (u : State) (v : Inv core sheet u) where
    place_c : u.regs.c ≡ code_of sheet + v.i / 4
    place_c = omega (arith, v.at.set.place, v.at.set.low)

    place_l : u.regs.l ≡ v.i % 4
    place_l = omega (arith, v.at.set.place, v.at.set.low)

    pub from_code : code_of sheet ≤ u.regs.c
    from_code = omega (arith, place_c)

    pub below_code : u.regs.c < code_of sheet + code_words_of sheet
    below_code = omega (arith, place_c, v.below)

    fetched : syllable_at core sheet v.i ≡ decode_of (syllable_of (get_or u.core u.regs.c 0) u.regs.l)
    fetched =
        ap (λ (c : ℕ). decode_of (syllable_of (get_or core c 0) (v.i % 4))) (sym place_c)
        ∙ ap (λ (l : ℕ). decode_of (syllable_of (get_or core u.regs.c 0) l)) (sym place_l)
        ∙ ap (λ (w : ℕ). decode_of (syllable_of w u.regs.l)) (sym (v.at.kept.same u.regs.c (code_unnamed core sheet ok u.regs.c from_code below_code)))

    pub execute_good : Good core sheet (execute_of u)
    unfolding execute_of
    execute_good =
        subst (λ (o : Res ℕ). Good core sheet (fetched_by o u)) (sym (read_on u.core u.regs.c (omega (arith, below_code, ok.code_in, v.at.kept.size))))
        (perform_good core sheet ok u.regs.c v.i v.below v.xs v.shape (advanced_of u) (advanced _ v.xs u v.at) _ fetched (decode_proper _ (twelve_bits (get_or u.core u.regs.c 0) u.regs.l)))

  plain_start : (m : ℕ) → Open core sheet m → flag_of (get_or core m 0) ≡ false
  plain_start m (inl n) = subst (λ (m : ℕ). flag_of (get_or core m 0) ≡ false) (sym n.here) (ok.numbers n.cell n.number)
  plain_start m (inr a) = (ok.arrays a.cell a.array).plain m a.from a.below

  pub start : Inv core sheet (start_of core sheet)
  unfolding shape_at
  start =
      record {
        i = 0;
        below = omega (arith, ok.some);
        xs = [];
        shape = refl;
        at = record {
          kept = record { size = refl; same = λ m n. refl; plain = plain_start };
          set = record { table = refl; level = refl; place = refl; low = omega arith };
          room = omega arith;
          mid = [];
          top = empty;
          rest = rest_empty core sheet refl;
        };
      }

  pub reached : (n : ℕ) (u : State) → Reaches n (start_of core sheet) u → Inv core sheet u
  reached zero u e = subst (λ (u : State). Inv core sheet u) (sym e) start
  reached (suc n) u r = subst (λ (e : Ended). Good core sheet e) r.2 (execute_good r.0 (reached n r.0 r.1))

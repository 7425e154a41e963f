-- LOD, STD, SND and COM read and write only number cells and array words.
use Prim.Native.Nat.{ℕ, ◌+◌, ◌*◌, ◌<◌, ◌≤◌}
use mathlib.Core.Path.{◌≡◌, refl, sym, ◌∙◌, ap, subst}
use mathlib.Core.Logic.{inl}
use mathlib.Core.Bool.{true, false, ◌&&◌, true≢false, false≢true}
use mathlib.Core.List.{List, [], ◌∷◌}
use native.Mathlib.Omega.{arith}
use borrow.Author.Tests.{eqb-true}
use lib.Dec.{eqb}
use lib.ListN.{length, set}
use Rattle.machine.specs.States.{State, store}
use Rattle.machine.specs.Memory.{store_of, k_address_of}
use Rattle.machine.specs.Stores.{place_of, lod_of, snd_of, std_of, com_of}
use Rattle.word.specs.Field.{field}
use Rattle.word.specs.Layout.{flag_of, presence_of, address_of}
use Rattle.sheet.specs.Sheets.{room_of, r_of, cell_of}
use Rattle.inspector.specs.Scan.{Item, Shape, value, writable, loaded, stored}
use Rattle.demands.proofs.Tests.{shows_and, shows, shows_eq}
use Rattle.demands.proofs.Safe.{Safe, goes, safe_if, safe_bind, safe_map}
use Rattle.demands.proofs.Passed.{Passed}
use Rattle.demands.specs.Stays.{Open}
use Rattle.demands.proofs.Holds.{Fits, is, plain, points, Under, Kept, Set, At, FullB}
use Rattle.demands.proofs.Cores.{open_in, open_stack, keep_open}
use Rattle.demands.proofs.Stacks.{under_height, under_set, register_none, rest_empty, rest_some}
use Rattle.demands.proofs.Adjusts.{in_core_safe, a_full, both_full}
use Rattle.demands.proofs.Words.{small_off, value_off}
use Rattle.demands.proofs.Operators.{Does, does_when, at_a}

module _ (core sheet : List ℕ) (ok : Passed core sheet) (p : ℕ) where
  -- "Address of k. SALF off: 64R+k", in core of a cell of the table.
  pub address_safe : (here : ℕ) (st : State) (k : ℕ) → Kept core sheet st.core → Set sheet p st.regs.r st.regs.salf st.regs.c st.regs.l → 64 * r_of sheet + k < length core → Safe (λ (m : ℕ). m ≡ 64 * r_of sheet + k) (k_address_of here st k)
  unfolding k_address_of
  address_safe here st k q h i =
      safe_if st.regs.salf (λ e. absurd (true≢false (sym e ∙ h.level)))
      (λ _. safe_map (in_core_safe (length st.core) (64 * st.regs.r + k) (omega (arith, q.size, h.table))) (λ m e. omega (arith, e, h.table)))

  pub cell_open : (k : ℕ) → cell_of sheet k ≡ 3 → Open core sheet (64 * r_of sheet + k)
  cell_open k e = inl (record { cell = k; number = e; here = refl })

  place_safe : (here : ℕ) (st : State) {x : Item} {w : ℕ} → Kept core sheet st.core → Set sheet p st.regs.r st.regs.salf st.regs.c st.regs.l → writable sheet x ≡ true → Fits core sheet x w → Safe (Open core sheet) (place_of here st w)
  unfolding place_of
  place_safe here st {w = k} q h v (is i) =
      safe_if (flag_of k) (λ e. absurd (true≢false (sym e ∙ small_off k i)))
      (λ _.
      let low : field k 38 47 ≡ k = omega arith in
      let o : Open core sheet (64 * r_of sheet + k) = cell_open k (eqb-true _ _ v) in
      safe_map (address_safe here st (field k 38 47) q h (omega (arith, low, open_in core sheet ok o)))
      (λ m e. subst (λ (m : ℕ). Open core sheet m) (omega (arith, low, e)) o))
  place_safe here st q h v (plain e) = absurd (false≢true v)
  place_safe here st {w = w} q h v (points r) =
      safe_if (flag_of w)
      (λ _. safe_if (presence_of w)
      (λ _. safe_map (in_core_safe (length st.core) (address_of w) (omega (arith, q.size, open_in core sheet ok r.target))) (λ m i. subst (λ (m : ℕ). Open core sheet m) (sym i) r.target))
      (λ i. absurd (true≢false (sym r.presence ∙ i))))
      (λ i. absurd (true≢false (sym r.flag ∙ i)))

  pub lod_does : (here : ℕ) (st : State) (xs : Shape) → At core sheet p xs st → Does core sheet p (loaded sheet xs) (lod_of here st)
  unfolding lod_of
  lod_does here st [] v = tt
  lod_does here st (a ∷ xs) v =
      does_when core sheet p (writable sheet a)
      (λ e room. safe_bind (a_full core sheet ok p st a xs v)
      (λ u i. safe_bind (place_safe here u i.kept i.set e i.a)
      (λ m o. goes (at_a core sheet ok p st u i.kept i.set room (plain (i.kept.plain m o)) i.rest))))

  -- A store at a word that may be stored to leaves the stack.
  under_open : (l : List ℕ) (m w s : ℕ) (xs : Shape) → Open core sheet m → length xs ≤ room_of sheet → Under core sheet l s xs → Under core sheet (set l m w) s xs
  under_open l m w s xs o room u =
      under_set core sheet l m w s xs
      (λ j f g e. open_stack core sheet ok o (record { above = omega arith; within = omega (arith, under_height core sheet l s xs u) })) u

  -- A is empty, and B has the word that was stored.
  snd_safe : (here : ℕ) (st : State) (a b : Item) (xs : Shape) → writable sheet a ≡ true → value b ≡ true → At core sheet p (a ∷ b ∷ xs) st → Safe (λ (u : State). (u.regs.afull ≡ false) × FullB core sheet p u b xs u) (snd_of here st)
  unfolding snd_of
  snd_safe here st a b xs e f v =
      safe_bind (both_full core sheet ok p st a b xs v)
      (λ u i. safe_bind (place_safe here u i.kept i.set e i.a)
      (λ m o. goes (
        refl,
        record {
          kept = keep_open core sheet ok u.core i.kept m u.regs.b o (value_off f i.b);
          set = i.set;
          was = record { full = refl; a = refl };
          on = i.b_on;
          b = i.b;
          under = under_open u.core m u.regs.b u.regs.s xs o (omega (arith, v.room)) i.under;
        },
      )))

  pub snd_does : (here : ℕ) (st : State) (xs : Shape) → At core sheet p xs st → Does core sheet p (stored sheet true xs) (snd_of here st)
  snd_does here st [] v = tt
  snd_does here st (a ∷ []) v = tt
  snd_does here st (a ∷ b ∷ xs) v =
      does_when core sheet p (writable sheet a && value b)
      (λ e room.
      let t = shows_and (shows (writable sheet a)) (shows (value b)) e in
      safe_map (snd_safe here st a b xs t.0 t.1 v)
      (λ u i. record { kept = i.1.kept; set = i.1.set; room = room; mid = b ∷ xs; top = register_none core sheet i.0; rest = rest_some core sheet i.1.on i.1.b i.1.under }))

  pub std_does : (here : ℕ) (st : State) (xs : Shape) → At core sheet p xs st → Does core sheet p (stored sheet false xs) (std_of here st)
  unfolding std_of
  std_does here st [] v = tt
  std_does here st (a ∷ []) v = tt
  std_does here st (a ∷ b ∷ xs) v =
      does_when core sheet p (writable sheet a && value b)
      (λ e room.
      let t = shows_and (shows (writable sheet a)) (shows (value b)) e in
      safe_bind (snd_safe here st a b xs t.0 t.1 v)
      (λ u i. goes (record { kept = i.1.kept; set = i.1.set; room = room; mid = xs; top = register_none core sheet i.0; rest = rest_empty core sheet i.1.under })))

  store_safe : (st : State) (m w : ℕ) → m < length st.core → Safe (λ (u : State). u ≡ store st m w) (store_of st m w)
  unfolding store_of
  store_safe st m w h = safe_bind (in_core_safe (length st.core) m h) (λ at e. goes (ap (λ (at : ℕ). store st at w) e))

  -- COM stores at cell 9, a number cell.
  pub com_safe : (st : State) (x : Item) → (value x && eqb (cell_of sheet 9) 3) ≡ true → At core sheet p (x ∷ []) st → Safe (λ (u : State). Kept core sheet u.core) (com_of st)
  unfolding com_of
  com_safe st x e v =
      let t = shows_and (shows (value x)) (shows_eq (cell_of sheet 9) 3) e in
      let o : Open core sheet (64 * r_of sheet + 9) = cell_open 9 t.1 in
      safe_bind (a_full core sheet ok p st x [] v)
      (λ u i.
      let at : 64 * u.regs.r + 9 ≡ 64 * r_of sheet + 9 = omega (arith, i.set.table) in
      safe_bind (store_safe u (64 * u.regs.r + 9) u.regs.a (omega (arith, at, i.kept.size, open_in core sheet ok o)))
      (λ w q. goes (subst (λ (w : State). Kept core sheet w.core) (sym q) (subst (λ (m : ℕ). Kept core sheet (set u.core m u.regs.a)) (sym at)
      (keep_open core sheet ok u.core i.kept (64 * r_of sheet + 9) u.regs.a o (value_off t.0 i.a))))))

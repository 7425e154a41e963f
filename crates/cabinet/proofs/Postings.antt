-- A posting over bytes: what it answers by its tests, and its guarantees, from those of a posting and the round trip of a core.
use Prim.Native.Nat.{ℕ, ◌/◌}
use mathlib.Core.Path.{◌≡◌, refl, sym, ◌∙◌, ap, subst}
use mathlib.Core.Bool.{Bool, true, false, true≢false}
use mathlib.Core.List.{List}
use native.Mathlib.Omega.{arith}
use borrow.Author.Tests.{eq-eqb, ne_eqb, eqb-true}
use lib.Dec.{eqb}
use lib.ListN.{length}
use Rattle.word.specs.Core.{words_fit}
use Rattle.word.specs.Choices.{if◌then◌otherwise◌}
use Rattle.machine.specs.Steps.{refusal_of}
use Rattle.tape.specs.Files.{words_of, bytes_of}
use Rattle.tape.proofs.Words.{words_length}
use Rattle.tape.proofs.RoundTrip.{core_back}
use Rattle.demands.specs.Leaves.{Leaves}
use Rattle.std.specs.declared.result.Result.{Result}
use Rattle.std.specs.declared.result.Result.TheVariants.{Ok, Err}
use Rattle.machine.specs.declared.outcome.Ran.{Ran}
use Rattle.machine.specs.Steps.{end_number}
use Rattle.post.specs.declared.PostError.{PostError}
use Rattle.post.specs.Posting.{Posting, post_of, posted_of, post_error_number, Guarantees, Posts}
use Rattle.post.proofs.Postings.{guarantees, nonzero, post_fit}
use Rattle.tape.specs.declared.errors.ReadError.{ReadError}
use Rattle.cabinet.specs.declared.refused.Refused.{Refused}
use Rattle.cabinet.specs.Rows.{row_of, lengths_number_of}
use Rattle.cabinet.specs.Posts.{PostBytes, post_bytes, post_back_of, post_bytes_of, PostGuards, PostsBytes}
use Rattle.cabinet.specs.ForCode.Refusals.{by_file, by_post, post_by}
use Rattle.cabinet.specs.ForCode.Rooms.{Back, words_read}
use Rattle.cabinet.proofs.Readings.{Filled, filled, unread, positive}
use Rattle.cabinet.proofs.Sets.{lengths_first, lengths_odd, lengths_good}
use Rattle.cabinet.proofs.Backs.{fit_parts, handed_back}

-- ---- the guarantees

-- The words after are those of the posting, since they fit six bytes each.
guard_back : (core sheet regs : List ℕ) (p : Posting) → Guarantees (words_of (length core / 6) core) sheet p → (p.number ≡ 0 → words_fit p.core ≡ true)
    → PostGuards core sheet regs (post_back_of p core regs)
unfolding post_back_of if◌then◌otherwise◌
guard_back core sheet regs p g f = by (eqb p.number 0) refl
  where
    back : p.number ≡ 0 → words_of (length core / 6) (bytes_of p.core) ≡ p.core
    back z =
        let size : length p.core ≡ length core / 6 = (g.posted z).size ∙ words_length (length core / 6) core in
        subst (λ (k : ℕ). words_of k (bytes_of p.core) ≡ p.core) size (core_back p.core (f z))

    by : (b : Bool) → eqb p.number 0 ≡ b
        → PostGuards core sheet regs (if b then post_bytes p.number (bytes_of p.core) (bytes_of (row_of p.regs)) p.place p.stop p.completed otherwise post_bytes p.number core regs p.place p.stop p.completed)
    by true e =
        record {
          away = λ n. absurd (n (eqb-true p.number 0 e));
          posted = λ z. subst (λ (ws : List ℕ). Leaves (words_of (length core / 6) core) sheet p.stop ws) (sym (back z)) (g.posted z);
        }
    by false e =
        record {
          away = λ n. (refl, refl);
          posted = λ z. absurd (true≢false (sym (eq-eqb p.number 0 z) ∙ e));
        }

guards : (core sheet : List ℕ) (budget : ℕ) (regs : List ℕ) → PostGuards core sheet regs (post_bytes_of core sheet budget regs)
unfolding post_bytes_of if◌then◌otherwise◌
guards core sheet budget regs = by (eqb (lengths_number_of (length core) (length regs)) 0) refl
  where
    by : (b : Bool) → eqb (lengths_number_of (length core) (length regs)) 0 ≡ b
        → PostGuards core sheet regs (if b then post_back_of (post_of (words_of (length core / 6) core) sheet budget) core regs otherwise post_bytes (lengths_number_of (length core) (length regs)) core regs 0 0 0)
    by true e =
        guard_back core sheet regs (post_of (words_of (length core / 6) core) sheet budget) (guarantees (words_of (length core / 6) core) sheet budget)
        (λ z. (fit_parts _ _ (post_fit (words_of (length core / 6) core) sheet budget z)).1)
    by false e =
        record {
          away = λ n. (refl, refl);
          posted = λ z. absurd (true≢false (sym (eq-eqb (lengths_number_of (length core) (length regs)) 0 z) ∙ e));
        }

posts_bytes : (core sheet : List ℕ) (budget : ℕ) (regs : List ℕ) {x : PostBytes} → x ≡ post_bytes_of core sheet budget regs → PostsBytes core sheet budget regs x
posts_bytes core sheet budget regs e = rw e (record { same = refl; guarded = guards core sheet budget regs })

-- ---- the call

module _ (core sheet : List ℕ) (budget : ℕ) (regs : List ℕ) where
  refused : {n : ℕ} → n ≡ lengths_number_of (length core) (length regs) → (n ≡ 0 → ⊥) → PostsBytes core sheet budget regs (post_bytes n core regs 0 0 0)
  unfolding post_bytes_of if◌then◌otherwise◌
  refused {n} e z = posts_bytes core sheet budget regs (rw (← e, ne_eqb n 0 z))

  pub post_unread : {why : ReadError} → Err why ≡ words_read core → {r : Result Ran Refused} → r ≡ Err (by_file why) → PostsBytes core sheet budget regs (post_by r core regs)
  post_unread {why} e s = rw s (refused (lengths_first (length core) (unread core e) (positive why) (length regs)) (positive why))

  module _ {words : List ℕ} (read : Ok words ≡ words_read core) where
    full : Filled core words
    full = filled core read

    pub post_odd : (length regs ≡ 66 → ⊥) → PostsBytes core sheet budget regs (post_bytes 3 core regs 0 0 0)
    post_odd h = refused (lengths_odd (length core) full.good h) (λ z. omega (arith, z))

    module _ (row : length regs ≡ 66) (words' : List ℕ) where
      came : {p : Posting} → p ≡ post_of words sheet budget → {x : PostBytes} → x ≡ post_back_of p core regs → PostsBytes core sheet budget regs x
      unfolding post_bytes_of if◌then◌otherwise◌
      came e s =
          posts_bytes core sheet budget regs
          (s ∙ rw (e, eq-eqb (lengths_number_of (length core) (length regs)) 0 (lengths_good (length core) full.good row), ← full.said))

      pub post_refused : (why : PostError) → Posts words sheet budget (posted_of (Err why) words') → {r : Result Ran Refused} → r ≡ Err (by_post why) → PostsBytes core sheet budget regs (post_by r core regs)
      unfolding post_back_of if◌then◌otherwise◌
      post_refused why e s = came e.same (rw (s, ne_eqb (post_error_number why) 0 (nonzero why)))

      pub post_ended : (x : Ran) → Posts words sheet budget (posted_of (Ok x) words') → {core' regs' : List ℕ} → Back words' x.regs core core' regs regs'
          → PostsBytes core sheet budget regs (post_bytes 0 core' regs' 0 (end_number x.end) x.completed)
      unfolding post_back_of if◌then◌otherwise◌
      post_ended x e h =
          let l : length words' ≡ length words = (e.guarded.posted refl).size in
          let fit : refusal_of words' x.regs ≡ 0 = ap (λ (p : Posting). refusal_of p.core p.regs) e.same ∙ post_fit words sheet budget (ap (λ (p : Posting). p.number) (sym e.same)) in
          let back = handed_back words' x.regs fit (omega (arith, full.exact, l)) row h in
          came e.same (rw (back.0, back.1) refl)

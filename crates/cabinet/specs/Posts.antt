-- What posting a segment over bytes answers, the bytes that it leaves, and what these guarantee.
use Rattle.std.specs.Prelude.{ℕ, ◌/◌, ◌≡◌, ◌≢◌, List, eqb, length}
use Rattle.word.specs.Choices.{if◌then◌otherwise◌}
use Rattle.tape.specs.Files.{words_of, bytes_of}
use Rattle.demands.specs.Leaves.{Leaves}
use Rattle.post.specs.Posting.{Posting, post_of}
use Rattle.cabinet.specs.Rows.{row_of, lengths_number_of}

-- A number, the bytes of the core and those of the register set; the inspector's place; the run's stop and its count.
pub record PostBytes : Type 0 where
  pub number : ℕ
  pub core : List ℕ
  pub regs : List ℕ
  pub place : ℕ
  pub stop : ℕ
  pub completed : ℕ

abbrev pub post_bytes : ℕ → List ℕ → List ℕ → ℕ → ℕ → ℕ → PostBytes
post_bytes n core regs place stop completed =
    record { number = n; core = core; regs = regs; place = place; stop = stop; completed = completed }

-- The bytes say what the run left by 0, and are left as they were by any other number.
unfoldable pub post_back_of : Posting → List ℕ → List ℕ → PostBytes
post_back_of p core regs =
    if eqb p.number 0 then post_bytes p.number (bytes_of p.core) (bytes_of (row_of p.regs)) p.place p.stop p.completed
    otherwise post_bytes p.number core regs p.place p.stop p.completed

-- A place, a stop and a count that there are not are 0.
unfoldable pub post_bytes_of : List ℕ → List ℕ → ℕ → List ℕ → PostBytes
post_bytes_of core sheet budget regs =
    if eqb (lengths_number_of (length core) (length regs)) 0 then post_back_of (post_of (words_of (length core / 6) core) sheet budget) core regs
    otherwise post_bytes (lengths_number_of (length core) (length regs)) core regs 0 0 0

-- Demand 3 of the words that the bytes say: by 0, those after are what a passed segment leaves of those before; by any other number,
-- all bytes are as they were.
pub record PostGuards (core sheet regs : List ℕ) (x : PostBytes) : Type 0 where
  pub away : x.number ≢ 0 → (x.core ≡ core) × (x.regs ≡ regs)
  pub posted : x.number ≡ 0 → Leaves (words_of (length core / 6) core) sheet x.stop (words_of (length core / 6) x.core)

-- The claim of `fifty_five_post`: the answer by the definition, and the guarantees of it.
pub record PostsBytes (core sheet : List ℕ) (budget : ℕ) (regs : List ℕ) (x : PostBytes) : Type 0 where
  pub same : x ≡ post_bytes_of core sheet budget regs
  pub guarded : PostGuards core sheet regs x

-- The plain job: it keeps the bytes of each part, and no engine.
use Rattle.std.specs.Prelude.{◌≡◌, ℕ, ◌+◌, Bool, if◌then◌else◌, List, [], ◌∷◌, ◌++◌, length, is_ok, Ok, Err, Result, nat_le}
use Rattle.engine.specs.Hashing.{switch_answer}
use Rattle.refusal.specs.declared.Refusal.{Refusal}
use Rattle.message.specs.Limits.{limit_of, part_refusal}
use Rattle.job.specs.declared.call.Call.{Call}
use Rattle.job.specs.declared.call.Call.TheVariants.{Feed, Switch}
use Rattle.message.specs.declared.part.Part.{Part}

abbrev pub Answer : Type 0
Answer = Result (Unit {0}) Refusal

-- whether a part that has taken so many bytes stays within its limit with the piece
abbrev pub has_room : Part → ℕ → List ℕ → Bool
has_room part count piece = nat_le (count + length piece) (limit_of part)

-- what a piece is answered after so many bytes: accepted within the limit, else the part's refusal
abbrev pub answer_after : Part → ℕ → List ℕ → Answer
answer_after part count piece =
    if has_room part count piece then Ok tt else Err (part_refusal part)

-- whether the taken bytes and the piece together are within the part's limit
abbrev pub fits : Part → List ℕ → List ℕ → Bool
fits part taken piece = has_room part (length taken) piece

abbrev pub feed_answer : Part → List ℕ → List ℕ → Answer
feed_answer part taken piece = answer_after part (length taken) piece

-- the bytes of the part after a feed: a piece is taken whole or not at all
abbrev pub taken_after : Part → List ℕ → List ℕ → List ℕ
taken_after part taken piece = if fits part taken piece then taken ++ piece else taken

-- what a call is answered, by what was taken before it
abbrev pub answer_to : Part → Bool → List ℕ → Call → Answer
answer_to part ready taken (Feed piece) = feed_answer part taken piece.now
answer_to part ready taken Switch = switch_answer ready

-- the bytes of the part after a call
abbrev pub taken_after_call : Part → List ℕ → Call → List ℕ
taken_after_call part taken (Feed piece) = taken_after part taken piece.now
taken_after_call part taken Switch = taken

-- A call leads from one state to another as in the plain job: whatever was taken before it, it is answered as the plain job
-- answers, and the new state holds what the plain job has taken then.
abbrev pub Follows : {S : Type 0} → (S → List ℕ → Type 0) → Part → Bool
    → S → Call → Answer → S → Type 0
Follows Holds part ready old call result new =
    (taken : List ℕ) → Holds old taken
    → (result ≡ answer_to part ready taken call) × Holds new (taken_after_call part taken call)

-- the bytes that a call brings: those of an accepted piece
abbrev pub call_bytes : Call → Answer → List ℕ
call_bytes (Feed piece) answer = if is_ok answer then piece.now else []
call_bytes Switch answer = []

-- the accepted pieces of a list of calls, joined
abbrev pub accepted_bytes : List Call → List Answer → List ℕ
accepted_bytes [] answers = []
accepted_bytes (c ∷ cs) [] = []
accepted_bytes (c ∷ cs) (a ∷ more) = call_bytes c a ++ accepted_bytes cs more

-- the answers to a list of calls
abbrev pub answers_to : Part → Bool → List ℕ → List Call → List Answer
answers_to part ready taken [] = []
answers_to part ready taken (c ∷ cs) =
    answer_to part ready taken c
    ∷ answers_to part ready (taken ++ call_bytes c (answer_to part ready taken c)) cs

-- the answers to the calls of a part, from its beginning
abbrev pub part_answers : Part → Bool → List Call → List Answer
part_answers part ready calls = answers_to part ready [] calls

-- the bytes that the calls bring to the part: the accepted pieces, joined
abbrev pub bytes_taken : Part → Bool → List Call → List ℕ
bytes_taken part ready calls = accepted_bytes calls (part_answers part ready calls)

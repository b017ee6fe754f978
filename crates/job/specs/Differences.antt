-- Two messages of the same lengths: their block lists, xored block by block.
use Rattle.std.specs.Prelude.{◌≡◌, ℕ, Bool, List, [], ◌∷◌, length}
use Rattle.field.specs.Evaluation.{eval}
use Rattle.field.specs.Kinds.{block_ring}
use Rattle.field.specs.declared.block.Block.{Block}
use Rattle.message.specs.Blocks.{block_list}
use Rattle.message.specs.declared.digest.Pad.{Pad}
use Rattle.engine.specs.declared.engine.Engine.{Ghosts}
use Rattle.job.specs.Jobs.{Closes}
use Rattle.job.specs.Runs.{hash_of_run, taken_header, taken_body}
use Rattle.job.specs.declared.call.Calls.{Calls}
use Rattle.job.specs.declared.closed.Closed.{Closed}

-- two lists of one length, xored block by block
abbrev pub xor_list : List Block → List Block → List Block
xor_list [] qs = []
xor_list (p ∷ ps) [] = []
xor_list (p ∷ ps) (q ∷ qs) = block_ring.sum p q ∷ xor_list ps qs

-- Two messages whose headers are of one length, and whose bodies are.
pub record SameLengths (header body header' body' : List ℕ) : Type 0 where
  pub headers : length header ≡ length header'
  pub bodies : length body ≡ length body'

-- the evaluation, at the subkey, of both block lists xored
unfoldable pub difference_of : Block → List ℕ → List ℕ → List ℕ → List ℕ → Block
difference_of h header body header' body' =
    eval block_ring h (xor_list (block_list header body) (block_list header' body'))

module _ {A B : Type 0} (a : Ghosts A) (b : Ghosts B) where
  -- The hashes of two closed jobs, xored, are that evaluation, where both have one subkey and the same lengths.
  abbrev pub XorIsEvaluation : Closed A → Closed B → Block → Type 0
  XorIsEvaluation first second xor =
      (h : Block) (can_switch can_switch' : Bool) (pad pad' : Pad)
      → (header body header' body' : List ℕ)
      → Closes a h can_switch pad first header body
      → Closes b h can_switch' pad' second header' body'
      → SameLengths header body header' body'
      → xor ≡ difference_of h header body header' body'

  -- Two jobs, each from its calls on an engine.
  module _ (first : A) (first_calls : Calls) (second : B) (second_calls : Calls) where
    -- the hashes that they come to, xored
    abbrev pub xor_of_runs : Block
    xor_of_runs =
        block_ring.sum (hash_of_run a first first_calls) (hash_of_run b second second_calls)

    -- One subkey, headers of one length, bodies of one length.
    pub record AreAlike : Type 0 where
      pub subkey : a.subkey_of first ≡ b.subkey_of second
      pub lengths : SameLengths
          (taken_header a first first_calls) (taken_body a first first_calls)
          (taken_header b second second_calls) (taken_body b second second_calls)

    -- The hashes of such jobs, xored, are the evaluation of what they took.
    abbrev pub RunsXorIsEvaluation : Block → Type 0
    RunsXorIsEvaluation xor =
        AreAlike
        → xor ≡ difference_of (a.subkey_of first)
        (taken_header a first first_calls) (taken_body a first first_calls)
        (taken_header b second second_calls) (taken_body b second second_calls)

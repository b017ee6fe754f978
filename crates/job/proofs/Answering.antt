-- Lists of calls with their answers, joined end to end.
use Rattle.std.proofs.Common.{◌≡◌, ℕ, suc, ◌+◌, Bool, true, false, if◌then◌else◌, List, [], ◌∷◌, ◌++◌, map, length, drop, set, is_ok, Ok, Err, sym, refl, ap, ◌∙◌, subst, ap₂, append_assoc, append-nil, arith, length-append, Bor, MatchResult}
use Rattle.std.proofs.Math.Seq.{take-nil, drop-nil}
use Rattle.std.proofs.lemmas.List.{drop_at, drop_all}
use Rattle.field.specs.declared.block.Block.{Block}
use Rattle.engine.specs.Chain.{Operation, absorb, Chain}
use Rattle.engine.specs.declared.engine.Engine.{Ghosts}
use Rattle.engine.proofs.Chains.{chain_append}
use Rattle.job.specs.Cuts.{full_blocks, left_over}
use Rattle.job.specs.Buffers.{pending_bytes, Holds, TakesPiece, Feeds, Switches, BufferFollows}
use Rattle.message.specs.Limits.{part_refusal}
use Rattle.job.specs.Plain.{Answer, fits, answer_to, taken_after_call, call_bytes, accepted_bytes, answers_to, part_answers}
use Rattle.job.specs.Runs.{new_blocks, operations_for, operations_of, AnswersFrom, AnswersCalls, AnswersIntoRow, row_after}
use Rattle.job.specs.declared.call.Call.{Call}
use Rattle.job.specs.declared.call.Call.TheVariants.{Feed, Switch}
use Rattle.message.specs.declared.part.Part.{Part}
use Rattle.job.specs.declared.block_buffer.BlockBuffer.{BlockBuffer}
use Rattle.job.proofs.Cutting.{full_append}

-- the blocks that become full are those of the waiting bytes and the piece
pub new_blocks_follow : (taken piece : List ℕ) → new_blocks taken piece ≡ full_blocks (left_over taken ++ piece)
new_blocks_follow taken piece =
    ap (drop (length (full_blocks taken))) (full_append taken piece)
    ∙ drop_at (full_blocks taken) (full_blocks (left_over taken ++ piece)) (length (full_blocks taken)) refl

pub no_new_blocks : (taken : List ℕ) → new_blocks taken [] ≡ []
no_new_blocks taken =
    ap (λ bytes. drop (length (full_blocks taken)) (full_blocks bytes)) (append-nil taken)
    ∙ drop_all (length (full_blocks taken)) (full_blocks taken) (omega arith)

length_answers : (part : Part) (can_switch : Bool) (taken : List ℕ) (cs : List Call)
    → length (answers_to part can_switch taken cs) ≡ length cs
length_answers part can_switch taken [] = refl
length_answers part can_switch taken (c ∷ cs) =
    ap suc (length_answers part can_switch (taken ++ call_bytes c (answer_to part can_switch taken c)) cs)

pub accepted_append : (cs ds : List Call) (xs ys : List Answer) → length xs ≡ length cs
    → accepted_bytes (cs ++ ds) (xs ++ ys) ≡ accepted_bytes cs xs ++ accepted_bytes ds ys
accepted_append [] ds [] ys same = refl
accepted_append [] ds (x ∷ xs) ys same = absurd (omega arith)
accepted_append (c ∷ cs) ds [] ys same = absurd (omega arith)
accepted_append (c ∷ cs) ds (x ∷ xs) ys same =
    ap (λ bytes. call_bytes c x ++ bytes) (accepted_append cs ds xs ys (omega arith))
    ∙ sym (append_assoc (call_bytes c x) (accepted_bytes cs xs) (accepted_bytes ds ys))

operations_append : (taken : List ℕ) (cs ds : List Call) (xs ys : List Answer) → length xs ≡ length cs
    → operations_of taken (cs ++ ds) (xs ++ ys) ≡ operations_of taken cs xs ++ operations_of (taken ++ accepted_bytes cs xs) ds ys
operations_append taken [] ds [] ys same = ap (λ bytes. operations_of bytes ds ys) (sym (append-nil taken))
operations_append taken [] ds (x ∷ xs) ys same = absurd (omega arith)
operations_append taken (c ∷ cs) ds [] ys same = absurd (omega arith)
operations_append taken (c ∷ cs) ds (x ∷ xs) ys same =
    let after : List ℕ = taken ++ call_bytes c x in
    ap (λ os. operations_for taken c x ++ os)
    (operations_append after cs ds xs ys (omega arith)
    ∙ ap (λ bytes. operations_of after cs xs ++ operations_of bytes ds ys)
    (append_assoc taken (call_bytes c x) (accepted_bytes cs xs)))
    ∙ sym (append_assoc (operations_for taken c x) (operations_of after cs xs)
    (operations_of (taken ++ (call_bytes c x ++ accepted_bytes cs xs)) ds ys))

answers_append : (part : Part) (can_switch : Bool) (taken : List ℕ) (cs ds : List Call)
    → answers_to part can_switch taken (cs ++ ds)
    ≡ answers_to part can_switch taken cs
    ++ answers_to part can_switch (taken ++ accepted_bytes cs (answers_to part can_switch taken cs)) ds
answers_append part can_switch taken [] ds = ap (λ bytes. answers_to part can_switch bytes ds) (sym (append-nil taken))
answers_append part can_switch taken (c ∷ cs) ds =
    let a : Answer = answer_to part can_switch taken c in
    let after : List ℕ = taken ++ call_bytes c a in
    ap (λ xs. a ∷ xs)
    (answers_append part can_switch after cs ds
    ∙ ap (λ bytes. answers_to part can_switch after cs ++ answers_to part can_switch bytes ds)
    (append_assoc taken (call_bytes c a) (accepted_bytes cs (answers_to part can_switch after cs))))

module _ {E : Type 0} (m : Ghosts E) (h : Block) (can_switch : Bool) (before : List Block) where
  pub answered_none : (f : BlockBuffer E) (taken : List ℕ) (xs : List Answer) → xs ≡ []
      → Holds m h can_switch before f taken → AnswersFrom m h can_switch before f taken [] xs f
  answered_none f taken xs none held = record {
    said = none;
    holds = subst (λ (bytes : List ℕ). Holds m h can_switch before f bytes) (sym (append-nil taken)) held;
    chain = refl;
  }

  pub answered_append : (f g t : BlockBuffer E) (taken : List ℕ) (cs ds : List Call) (xs ys : List Answer)
      → AnswersFrom m h can_switch before f taken cs xs g
      → AnswersFrom m h can_switch before g (taken ++ accepted_bytes cs xs) ds ys t → g.part ≡ f.part
      → AnswersFrom m h can_switch before f taken (cs ++ ds) (xs ++ ys) t
  answered_append f g t taken cs ds xs ys a b kept =
      let part : Part = f.part in
      let same : length xs ≡ length cs = ap length a.said ∙ length_answers part can_switch taken cs in
      let said : ys ≡ answers_to part can_switch (taken ++ accepted_bytes cs xs) ds =
      b.said ∙ ap (λ p. answers_to p can_switch (taken ++ accepted_bytes cs xs) ds) kept in
      record {
        said =
            ap₂ (λ us vs. us ++ vs) a.said
            (said ∙ ap (λ us. answers_to part can_switch (taken ++ accepted_bytes cs us) ds) a.said)
            ∙ sym (answers_append part can_switch taken cs ds);
        holds =
            subst (λ (bytes : List ℕ). Holds m h can_switch before t bytes)
            (append_assoc taken (accepted_bytes cs xs) (accepted_bytes ds ys)
            ∙ ap (λ bytes. taken ++ bytes) (sym (accepted_append cs ds xs ys same))) b.holds;
        chain =
            subst (λ (os : List Operation). Chain m os f.engine t.engine) (sym (operations_append taken cs ds xs ys same))
            (chain_append m (operations_of taken cs xs) (operations_of (taken ++ accepted_bytes cs xs) ds ys)
            f.engine g.engine t.engine a.chain b.chain);
      }

-- ---- one call

-- the answer to a piece that fits, or does not
abbrev if_fits : Part → Bool → Answer
if_fits part b = if b then Ok tt else Err (part_refusal part)

after_piece : (part : Part) (taken piece : List ℕ) (b : Bool)
    → (if b then taken ++ piece else taken) ≡ taken ++ (if is_ok (if_fits part b) then piece else [])
after_piece part taken piece true = refl
after_piece part taken piece false = sym (append-nil taken)

-- the bytes after a call are those before it and those that it brings
after_call : (part : Part) (ready : Bool) (taken : List ℕ) (call : Call)
    → taken_after_call part taken call ≡ taken ++ call_bytes call (answer_to part ready taken call)
after_call part ready taken (Feed piece) = after_piece part taken piece.now (fits part taken piece.now)
after_call part ready taken Switch = sym (append-nil taken)

module _ {E : Type 0} (m : Ghosts E) (f t : BlockBuffer E) where
  -- A call that the buffer follows, and for which the engine goes through these operations.
  answers_one : (call : Call) (a : Answer) → BufferFollows m f call a t
      → ((taken : List ℕ) → pending_bytes f ≡ left_over taken → Chain m (operations_for taken call a) f.engine t.engine)
      → AnswersCalls m f (call ∷ []) (a ∷ []) t
  answers_one call a follows went h can_switch before taken held =
      let said = follows h can_switch before taken held in
      let brought : taken_after_call f.part taken call ≡ taken ++ (call_bytes call a ++ []) =
      after_call f.part can_switch taken call
      ∙ ap (λ x. taken ++ call_bytes call x) (sym said.0)
      ∙ ap (λ bytes. taken ++ bytes) (sym (append-nil (call_bytes call a))) in
      record {
        said = ap (λ x. x ∷ []) said.0;
        holds = subst (λ (bytes : List ℕ). Holds m h can_switch before t bytes) brought said.1;
        chain =
            subst (λ (os : List Operation). Chain m os f.engine t.engine)
            (sym (append-nil (operations_for taken call a))) (went taken held.left);
      }

  fed_operations : (piece taken : List ℕ) (a : Answer) → MatchResult a (λ _. TakesPiece m f piece t) (λ _. t ≡ f)
      → pending_bytes f ≡ left_over taken
      → Chain m (map absorb (new_blocks taken (if is_ok a then piece else []))) f.engine t.engine
  fed_operations piece taken (Ok x) fed left =
      subst (λ (ps : List Block). Chain m (map absorb ps) f.engine t.engine)
      (ap (λ w. full_blocks (w ++ piece)) left ∙ sym (new_blocks_follow taken piece)) fed.hashed.chain
  fed_operations piece taken (Err x) same left =
      subst (λ (ps : List Block). Chain m (map absorb ps) f.engine t.engine) (sym (no_new_blocks taken)) (ap (λ u. u.engine) same)

  pub answers_feed : (piece : Bor (List ℕ)) (a : Answer) → Feeds m f piece.now a t → BufferFollows m f (Feed piece) a t
      → AnswersCalls m f (Feed piece ∷ []) (a ∷ []) t
  answers_feed piece a fed follows =
      answers_one (Feed piece) a follows (λ taken left. fed_operations piece.now taken a fed.outcome left)

  pub answers_switch : (a : Answer) → Switches m f a t → BufferFollows m f Switch a t → AnswersCalls m f (Switch ∷ []) (a ∷ []) t
  answers_switch a switched follows = answers_one Switch a follows (λ taken left. (t.engine, switched.engine, refl))

-- ---- rows of answers

row_none : (row : List Answer) → row ≡ row_after row []
row_none row = ap (λ ys. ys ++ row) (sym (take-nil (length row)))

row_more : (row xs : List Answer) (a : Answer) → set (row_after row xs) (length xs) a ≡ row_after row (xs ++ (a ∷ []))
row_more [] xs a = ap (λ ys. set ys (length xs) a) (drop-nil (length xs)) ∙ sym (drop-nil (length (xs ++ (a ∷ []))))
row_more (r ∷ row) [] a = ap (λ ys. a ∷ ys) (row_none row)
row_more (r ∷ row) (x ∷ xs) a = ap (λ ys. x ∷ ys) (row_more row xs a)

module _ {E : Type 0} (m : Ghosts E) (f : BlockBuffer E) (row : List Answer) where
  pub all_none : AnswersIntoRow m f [] row f row
  all_none = record {
    answers = [];
    count = refl;
    written = row_none row;
    answered = λ h can_switch before taken held. answered_none m h can_switch before f taken [] refl held;
  }

  pub all_more : (g t : BlockBuffer E) (cs : List Call) (c : Call) (middle after : List Answer) (a : Answer) (n : ℕ)
      → AnswersIntoRow m f cs row g middle
      → g.part ≡ f.part → length cs ≡ n → after ≡ set middle n a → AnswersCalls m g (c ∷ []) (a ∷ []) t
      → AnswersIntoRow m f (cs ++ (c ∷ [])) row t after
  all_more g t cs c middle after a n so_far kept place wrote one = record {
    answers = so_far.answers ++ (a ∷ []);
    count = length-append so_far.answers (a ∷ []) ∙ ap (λ k. k + 1) so_far.count ∙ sym (length-append cs (c ∷ []));
    written = wrote ∙ ap₂ (λ ys k. set ys k a) so_far.written (sym (so_far.count ∙ place)) ∙ row_more row so_far.answers a;
    answered = λ h can_switch before taken held.
        let said = so_far.answered h can_switch before taken held in
        answered_append m h can_switch before f g t taken cs (c ∷ []) so_far.answers (a ∷ []) said
        (one h can_switch before (taken ++ accepted_bytes cs so_far.answers) said.holds) kept;
  }

  -- a part's calls from its beginning, in the words of the plain job
  pub from_beginning : (h : Block) (can_switch : Bool) (before : List Block) (part : Part) (t : BlockBuffer E)
      → (calls : List Call) (after : List Answer)
      → f.part ≡ part → AnswersIntoRow m f calls row t after → Holds m h can_switch before f []
      → (after ≡ row_after row (part_answers part can_switch calls))
      × AnswersFrom m h can_switch before f [] calls (part_answers part can_switch calls) t
  from_beginning h can_switch before part t calls after kept all held =
      let said = all.answered h can_switch before [] held in
      let plain : all.answers ≡ part_answers part can_switch calls =
      said.said ∙ ap (λ p. answers_to p can_switch [] calls) kept in (
        all.written ∙ ap (row_after row) plain,
        subst (λ (xs : List Answer). AnswersFrom m h can_switch before f [] calls xs t) plain said,
      )

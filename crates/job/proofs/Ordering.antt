-- What an engine goes through in a whole job, in order.
use Rattle.std.proofs.Common.{◌≡◌, ℕ, Bool, List, [], ◌∷◌, ◌++◌, map, length, drop, is_ok, sym, refl, ap, ◌∙◌, ap₂, append_assoc, append-nil}
use Rattle.std.specs.List.{flat_map}
use Rattle.std.proofs.lemmas.List.{drop_at, map-append, map-id}
use Rattle.std.proofs.lemmas.List.Concat.{flat_map-append, flat_map_single}
use Rattle.field.specs.Kinds.{block_ring}
use Rattle.field.specs.declared.block.Block.{Block}
use Rattle.message.specs.Blocks.{blocks, block_of_lengths, block_list}
use Rattle.engine.specs.Chain.{Operation, resume, absorb, switch}
use Rattle.job.specs.Cuts.{full_blocks, left_over}
use Rattle.job.specs.Plain.{Answer, call_bytes, accepted_bytes}
use Rattle.job.specs.Runs.{new_blocks, final_block, operations_for, operations_of, job_operations, run_operations, absorb_of, switch_of, resume_of, switch_answers, InOrder}
use Rattle.job.specs.declared.call.Call.{Call}
use Rattle.job.specs.declared.call.Call.TheVariants.{Feed, Switch}
use Rattle.job.proofs.Answering.{new_blocks_follow, no_new_blocks}
use Rattle.job.proofs.Cutting.{full_append, blocks_full}

-- ---- the blocks of a part

full_new : (taken piece : List ℕ) → full_blocks (taken ++ piece) ≡ full_blocks taken ++ new_blocks taken piece
full_new taken piece = full_append taken piece ∙ ap (λ ps. full_blocks taken ++ ps) (sym (new_blocks_follow taken piece))

new_append : (taken xs ys : List ℕ) → new_blocks taken (xs ++ ys) ≡ new_blocks taken xs ++ new_blocks (taken ++ xs) ys
new_append taken xs ys =
    let n : ℕ = length (full_blocks taken) in
    let rest : List Block = new_blocks (taken ++ xs) ys in
    ap (drop n)
    (ap full_blocks (sym (append_assoc taken xs ys)) ∙ full_new (taken ++ xs) ys ∙ ap (λ ps. ps ++ rest) (full_new taken xs)
    ∙ append_assoc (full_blocks taken) (new_blocks taken xs) rest)
    ∙ drop_at (full_blocks taken) (new_blocks taken xs ++ rest) n refl

pub last_left : (taken : List ℕ) → final_block taken ≡ blocks (left_over taken)
last_left taken =
    ap (drop (length (full_blocks taken))) (blocks_full taken)
    ∙ drop_at (full_blocks taken) (blocks (left_over taken)) (length (full_blocks taken)) refl

new_from_none : (taken : List ℕ) → new_blocks [] taken ≡ full_blocks taken
unfolding full_blocks
new_from_none taken = refl

-- the full blocks of a part, and the last
full_final : (taken : List ℕ) → full_blocks taken ++ final_block taken ≡ blocks taken
full_final taken = ap (λ ps. full_blocks taken ++ ps) (last_left taken) ∙ sym (blocks_full taken)

-- the full blocks of both parts, each with its last, and the length block
all_blocks : (header body : List ℕ)
    → full_blocks header
    ++ (final_block header ++ (full_blocks body ++ (final_block body ++ (block_of_lengths header body ∷ []))))
    ≡ block_list header body
all_blocks header body =
    let lengths : List Block = block_of_lengths header body ∷ [] in
    sym (append_assoc (full_blocks header) (final_block header) (full_blocks body ++ (final_block body ++ lengths)))
    ∙ ap₂ (λ us vs. us ++ vs) (full_final header)
    (sym (append_assoc (full_blocks body) (final_block body) lengths) ∙ ap (λ us. us ++ lengths) (full_final body))

-- a job that only feeds absorbs the block list
pub fed_operations : (header body : List ℕ)
    → job_operations (map absorb (full_blocks header)) header (map absorb (full_blocks body)) body
    ≡ resume block_ring.zero ∷ map absorb (block_list header body)
fed_operations header body =
    let ends : List Block = final_block body ++ (block_of_lengths header body ∷ []) in
    ap (λ os. resume block_ring.zero ∷ os)
    (ap (λ os. map absorb (full_blocks header) ++ (map absorb (final_block header) ++ os))
    (sym (map-append absorb (full_blocks body) ends))
    ∙ ap (λ os. map absorb (full_blocks header) ++ os) (sym (map-append absorb (final_block header) (full_blocks body ++ ends)))
    ∙ sym (map-append absorb (full_blocks header) (final_block header ++ (full_blocks body ++ ends)))
    ∙ ap (map absorb) (all_blocks header body))

-- ---- what the operations give

absorbs_of : (ps : List Block) → flat_map absorb_of (map absorb ps) ≡ ps
absorbs_of [] = refl
absorbs_of (p ∷ ps) = ap (λ xs. p ∷ xs) (absorbs_of ps)

-- absorbs give nothing but their blocks
none_of : {X : Type 0} (f : Operation → List X) → ((p : Block) → f (absorb p) ≡ []) → (ps : List Block)
    → flat_map f (map absorb ps) ≡ []
none_of f none [] = refl
none_of f none (p ∷ ps) = ap (λ xs. xs ++ flat_map f (map absorb ps)) (none p) ∙ none_of f none ps

absorbs_for : (taken : List ℕ) (c : Call) (a : Answer)
    → flat_map absorb_of (operations_for taken c a) ≡ new_blocks taken (call_bytes c a)
absorbs_for taken (Feed piece) a = absorbs_of (new_blocks taken (call_bytes (Feed piece) a))
absorbs_for taken Switch a = sym (no_new_blocks taken)

absorbs_in : (taken : List ℕ) (cs : List Call) (xs : List Answer)
    → flat_map absorb_of (operations_of taken cs xs) ≡ new_blocks taken (accepted_bytes cs xs)
absorbs_in taken [] xs = sym (no_new_blocks taken)
absorbs_in taken (c ∷ cs) [] = sym (no_new_blocks taken)
absorbs_in taken (c ∷ cs) (x ∷ xs) =
    flat_map-append absorb_of (operations_for taken c x) (operations_of (taken ++ call_bytes c x) cs xs)
    ∙ ap₂ (λ ps qs. ps ++ qs) (absorbs_for taken c x) (absorbs_in (taken ++ call_bytes c x) cs xs)
    ∙ sym (new_append taken (call_bytes c x) (accepted_bytes cs xs))

-- what is nothing for an absorb is for a list of calls what it is for their switches
switches_in : {X : Type 0} (f : Operation → List X) → ((p : Block) → f (absorb p) ≡ [])
    → (taken : List ℕ) (cs : List Call) (xs : List Answer)
    → flat_map f (operations_of taken cs xs) ≡ flat_map (λ b. f (switch b)) (switch_answers cs xs)
switches_in f none taken [] xs = refl
switches_in f none taken (c ∷ cs) [] = refl
switches_in f none taken (Feed piece ∷ cs) (x ∷ xs) =
    flat_map-append f (operations_for taken (Feed piece) x) (operations_of (taken ++ call_bytes (Feed piece) x) cs xs)
    ∙ ap₂ (λ ps qs. ps ++ qs) (none_of f none (new_blocks taken (call_bytes (Feed piece) x)))
    (switches_in f none (taken ++ call_bytes (Feed piece) x) cs xs)
switches_in f none taken (Switch ∷ cs) (x ∷ xs) =
    ap (λ ps. f (switch (is_ok x)) ++ ps) (switches_in f none (taken ++ []) cs xs)

each_of : (bs : List Bool) → flat_map (λ b. b ∷ []) bs ≡ bs
each_of bs = flat_map_single (λ b. b) bs ∙ map-id bs

nothing_of : {X : Type 0} (bs : List Bool) → flat_map {A = X} (λ b. []) bs ≡ []
nothing_of [] = refl
nothing_of (b ∷ bs) = nothing_of bs

-- ---- the whole job

four_parts : {X : Type 0} (f : Operation → List X) (os ps qs rs : List Operation)
    → flat_map f (os ++ (ps ++ (qs ++ rs))) ≡ flat_map f os ++ (flat_map f ps ++ (flat_map f qs ++ flat_map f rs))
four_parts f os ps qs rs =
    flat_map-append f os (ps ++ (qs ++ rs))
    ∙ ap (λ xs. flat_map f os ++ xs)
    (flat_map-append f ps (qs ++ rs) ∙ ap (λ xs. flat_map f ps ++ xs) (flat_map-append f qs rs))

module _ (hs : List Call) (xs : List Answer) (bs : List Call) (ys : List Answer) where
  -- the same for a run: what it is for the resume, and for the switches of both parts
  switches_in_run : {X : Type 0} (f : Operation → List X) → ((p : Block) → f (absorb p) ≡ [])
      → flat_map f (run_operations hs xs bs ys)
      ≡ f (resume block_ring.zero)
      ++ (flat_map (λ b. f (switch b)) (switch_answers hs xs) ++ flat_map (λ b. f (switch b)) (switch_answers bs ys))
  switches_in_run f none =
      let header : List ℕ = accepted_bytes hs xs in
      let body : List ℕ = accepted_bytes bs ys in
      let ends : List Block = final_block body ++ (block_of_lengths header body ∷ []) in
      ap (λ us. f (resume block_ring.zero) ++ us)
      (four_parts f (operations_of [] hs xs) (map absorb (final_block header)) (operations_of [] bs ys) (map absorb ends)
      ∙ ap₂ (λ us vs. us ++ vs) (switches_in f none [] hs xs)
      (ap₂ (λ us vs. us ++ vs) (none_of f none (final_block header))
      (ap₂ (λ us vs. us ++ vs) (switches_in f none [] bs ys) (none_of f none ends)
      ∙ append-nil (flat_map (λ b. f (switch b)) (switch_answers bs ys)))))

  absorbs_in_run : flat_map absorb_of (run_operations hs xs bs ys) ≡ block_list (accepted_bytes hs xs) (accepted_bytes bs ys)
  absorbs_in_run =
      let header : List ℕ = accepted_bytes hs xs in
      let body : List ℕ = accepted_bytes bs ys in
      let ends : List Block = final_block body ++ (block_of_lengths header body ∷ []) in
      four_parts absorb_of (operations_of [] hs xs) (map absorb (final_block header)) (operations_of [] bs ys) (map absorb ends)
      ∙ ap₂ (λ us vs. us ++ vs) (absorbs_in [] hs xs ∙ new_from_none header)
      (ap₂ (λ us vs. us ++ vs) (absorbs_of (final_block header))
      (ap₂ (λ us vs. us ++ vs) (absorbs_in [] bs ys ∙ new_from_none body) (absorbs_of ends)))
      ∙ all_blocks header body

  pub in_order : InOrder hs xs bs ys
  in_order = record {
    resumes =
        switches_in_run resume_of (λ p. refl)
        ∙ ap₂ (λ us vs. block_ring.zero ∷ (us ++ vs)) (nothing_of (switch_answers hs xs)) (nothing_of (switch_answers bs ys));
    absorbs = absorbs_in_run;
    switches =
        switches_in_run switch_of (λ p. refl)
        ∙ ap₂ (λ us vs. us ++ vs) (each_of (switch_answers hs xs)) (each_of (switch_answers bs ys));
  }

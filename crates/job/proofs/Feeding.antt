-- One piece after another, and what the job holds then.
use Rattle.std.proofs.Common.{◌≡◌, ℕ, ◌+◌, ◌<◌, Bool, List, [], ◌++◌, length, sym, refl, ap, ◌∙◌, subst, ap₂, append_assoc, append-nil, arith, length-append}
use Rattle.field.specs.Evaluation.{eval}
use Rattle.field.specs.Kinds.{block_ring}
use Rattle.field.specs.declared.block.Block.{Block}
use Rattle.message.specs.Blocks.{AreBytes, blocks}
use Rattle.message.proofs.StandardHash.{small_append}
use Rattle.engine.specs.Rows.{HashesBlocks}
use Rattle.engine.specs.declared.engine.Engine.{Ghosts}
use Rattle.engine.proofs.HashedRows.{hashed_none, hashed_append, hashed_eval}
use Rattle.job.specs.Cuts.{full_blocks, left_over}
use Rattle.job.specs.Buffers.{pending_bytes, Holds, CutsIntoBlocks, TakesPiece, Flushes}
use Rattle.job.specs.declared.block_buffer.BlockBuffer.{BlockBuffer}
use Rattle.job.proofs.Cutting.{full_append, left_append, full_short, left_short, blocks_full}

module _ {E : Type 0} (m : Ghosts E) where
  -- a row that is empty
  pub row_none : (e : E) (ps : List Block) → ps ≡ [] → HashesBlocks m e ps e
  row_none e ps none = subst (λ (qs : List Block). HashesBlocks m e qs e) (sym none) (hashed_none m e)

  module _ (f g h : BlockBuffer E) (xs ys : List ℕ) (a : CutsIntoBlocks m f xs g) (b : CutsIntoBlocks m g ys h) where
    both : full_blocks (pending_bytes f ++ (xs ++ ys)) ≡ full_blocks (pending_bytes f ++ xs) ++ full_blocks (pending_bytes g ++ ys)
    both =
        ap full_blocks (sym (append_assoc (pending_bytes f) xs ys)) ∙ full_append (pending_bytes f ++ xs) ys
        ∙ ap (λ w. full_blocks (pending_bytes f ++ xs) ++ full_blocks (w ++ ys)) (sym a.left)

    pub cut_append : CutsIntoBlocks m f (xs ++ ys) h
    cut_append = record {
      hashed =
          subst (λ (ps : List Block). HashesBlocks m f.engine ps h.engine) (sym both)
          (hashed_append m f.engine g.engine h.engine
          (full_blocks (pending_bytes f ++ xs)) (full_blocks (pending_bytes g ++ ys)) a.hashed b.hashed);
      left =
          b.left ∙ ap (λ w. left_over (w ++ ys)) a.left ∙ sym (left_append (pending_bytes f ++ xs) ys)
          ∙ ap left_over (append_assoc (pending_bytes f) xs ys);
      count = b.count ∙ a.count;
      part = b.part ∙ a.part;
    }

  -- no bytes at all
  pub cut_none : (f : BlockBuffer E) → CutsIntoBlocks m f [] f
  cut_none f =
      let e : pending_bytes f ++ [] ≡ pending_bytes f = append-nil (pending_bytes f) in
      let short : length (pending_bytes f ++ []) < 16 = rw append-nil f.room in
      record {
        hashed = row_none f.engine _ (full_short (pending_bytes f ++ []) short);
        left = sym (left_short (pending_bytes f ++ []) short ∙ e);
        count = refl;
        part = refl;
      }

  -- the count was raised before
  pub takes_by : (f s t : BlockBuffer E) (xs piece : List ℕ) → CutsIntoBlocks m s xs t → xs ≡ piece
      → s.engine ≡ f.engine → pending_bytes s ≡ pending_bytes f
      → s.count ≡ f.count + length piece → s.part ≡ f.part → TakesPiece m f piece t
  takes_by f s t xs piece cut all engine pending count part =
      let bytes : pending_bytes s ++ xs ≡ pending_bytes f ++ piece = ap₂ (λ us vs. us ++ vs) pending all in
      record {
        hashed =
            subst (λ (e : E). HashesBlocks m e (full_blocks (pending_bytes f ++ piece)) t.engine) engine
            (subst (λ (ys : List ℕ). HashesBlocks m s.engine (full_blocks ys) t.engine) bytes cut.hashed);
        left = cut.left ∙ ap left_over bytes;
        count = cut.count ∙ count;
        part = cut.part ∙ part;
      }

  module _ (h : Block) (can_switch : Bool) (before : List Block) (f t : BlockBuffer E) (taken : List ℕ)
      (held : Holds m h can_switch before f taken) where
    pub holds_append : (piece : List ℕ) → AreBytes piece → TakesPiece m f piece t → Holds m h can_switch before t (taken ++ piece)
    holds_append piece small fed = record {
      subkey = fed.hashed.subkey ∙ held.subkey;
      ready = fed.hashed.ready ∙ held.ready;
      count = simp length-append (omega (arith, held.count, fed.count));
      left = fed.left ∙ ap (λ w. left_over (w ++ piece)) held.left ∙ sym (left_append taken piece);
      value =
          hashed_eval m h f.engine t.engine (before ++ full_blocks taken)
          (full_blocks (pending_bytes f ++ piece)) fed.hashed held.subkey held.value
          ∙ ap (eval block_ring h)
          (append_assoc before (full_blocks taken) (full_blocks (pending_bytes f ++ piece))
          ∙ ap (λ ps. before ++ ps)
          (ap (λ w. full_blocks taken ++ full_blocks (w ++ piece)) held.left ∙ sym (full_append taken piece)));
      bytes = small_append taken piece held.bytes small;
    }

    -- the part is at its end
    pub flushed_value : Flushes m f t → m.value_of t.engine ≡ eval block_ring h (before ++ blocks taken)
    flushed_value flushed =
        hashed_eval m h f.engine t.engine (before ++ full_blocks taken)
        (blocks (pending_bytes f)) flushed.hashed held.subkey held.value
        ∙ ap (eval block_ring h)
        (append_assoc before (full_blocks taken) (blocks (pending_bytes f))
        ∙ ap (λ ps. before ++ ps)
        (ap (λ w. full_blocks taken ++ blocks w) held.left ∙ sym (blocks_full taken)))

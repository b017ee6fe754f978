-- Rows of blocks that are hashed one after another.
use Rattle.std.proofs.Common.{◌≡◌, List, [], ◌∷◌, ◌++◌, map, sym, refl, ap, ◌∙◌, subst, ap₂}
use Rattle.std.proofs.lemmas.List.{map-append}
use Rattle.field.specs.Evaluation.{eval, horner}
use Rattle.field.specs.Instances.{block_ring_laws}
use Rattle.field.specs.Kinds.{block_ring}
use Rattle.field.specs.declared.block.Block.{Block}
use Rattle.field.proofs.Horner.{horner_append, horner_eval}
use Rattle.engine.specs.Chain.{Operation, absorb, Chain}
use Rattle.engine.specs.Hashing.{hash_step}
use Rattle.engine.specs.Rows.{HashesBlocks}
use Rattle.engine.specs.declared.engine.Engine.{Ghosts}
use Rattle.engine.proofs.Chains.{chain_append}

module _ {E : Type 0} (m : Ghosts E) where
  pub hashed_none : (e : E) → HashesBlocks m e [] e
  hashed_none e = record { subkey = refl; ready = refl; value = refl; chain = refl }

  -- an absorb, from the facts that it ensures
  pub hashed_one : (e f : E) (p q : Block)
      → m.value_of f ≡ hash_step (m.subkey_of e) (m.value_of e) p
      → m.subkey_of f ≡ m.subkey_of e
      → m.ready_of f ≡ m.ready_of e
      → m.absorbs e p f
      → p ≡ q
      → HashesBlocks m e (q ∷ []) f
  hashed_one e f p q value subkey ready whole same = record {
    subkey = subkey;
    ready = ready;
    value = value ∙ ap (hash_step (m.subkey_of e) (m.value_of e)) same;
    chain = (f, subst (λ (x : Block). m.absorbs e x f) same whole, refl);
  }

  pub hashed_append : (e f g : E) (ps qs : List Block)
      → HashesBlocks m e ps f → HashesBlocks m f qs g → HashesBlocks m e (ps ++ qs) g
  hashed_append e f g ps qs a b = record {
    subkey = b.subkey ∙ a.subkey;
    ready = b.ready ∙ a.ready;
    value =
        b.value
        ∙ ap (λ k. horner block_ring k (m.value_of f) qs) a.subkey
        ∙ ap (λ v. horner block_ring (m.subkey_of e) v qs) a.value
        ∙ sym (horner_append block_ring block_ring_laws (m.subkey_of e) (m.value_of e) ps qs);
    chain =
        subst (λ (os : List Operation). Chain m os e g) (sym (map-append absorb ps qs))
        (chain_append m (map absorb ps) (map absorb qs) e f g a.chain b.chain);
  }

  -- an engine whose value is the evaluation of a row, after one row more: the evaluation of both
  pub hashed_eval : (h : Block) (e f : E) (ps qs : List Block)
      → HashesBlocks m e qs f
      → m.subkey_of e ≡ h
      → m.value_of e ≡ eval block_ring h ps
      → m.value_of f ≡ eval block_ring h (ps ++ qs)
  hashed_eval h e f ps qs a key so_far =
      a.value
      ∙ ap₂ (λ k v. horner block_ring k v qs) key so_far
      ∙ horner_eval block_ring block_ring_laws h ps qs

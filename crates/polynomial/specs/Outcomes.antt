-- What the trial and the maker answer, and what they leave in the scratch.
use Rattle.std.specs.Prelude.{◌≡◌, ℕ, ◌<◌, ◌≤◌, if◌then◌else◌, ◌⊎◌, List, [], ◌∷◌, ◌++◌, length, Ok, Err, Result, nat_lt}
use Rattle.field.specs.declared.element.Element.{Ghosts}
use Rattle.refusal.specs.declared.Refusal.{Refusal}
use Rattle.refusal.specs.declared.Refusal.TheVariants.{DoesNotAnnihilate, NotBinary, ScratchTooShort}
use Rattle.polynomial.specs.Bits.{ones_below}
use Rattle.polynomial.specs.Polynomials.{coefficient_list, Annihilates, conjugates, SomeNeither, zeroed_scratch}
use Rattle.polynomial.specs.declared.accepted.Accepted.{Accepted}
use Rattle.polynomial.specs.declared.binary.Binary as binary
use Rattle.polynomial.specs.declared.trial.Trial.{Trial}

-- A scratch with room has its first elements zeroed; a shorter one is not touched.
abbrev pub scratch_after : {K : Type 0} → Ghosts K → ℕ → List K → List K
scratch_after m width scratch =
    if nat_lt (length scratch) width then scratch else zeroed_scratch m width scratch

module _ {K : Type 0} (b : binary.Ghosts K) (m : Ghosts K) (room : ℕ) (subkey : K) where
  -- refused for want of room, whatever else; else for this cause, under its own name
  abbrev pub IsRefusedFor : Refusal → Refusal → Type 0 → Type 0
  IsRefusedFor refusal named cause =
      ((refusal ≡ ScratchTooShort) × (room < b.width))
      ⊎ ((refusal ≡ named) × (b.width ≤ room) × cause)

  -- The trial accepts this proposal for this subkey.
  pub record Accepts (proposal : K) (trial : Trial K b m) : Type 0 where
    pub has_room : b.width ≤ room
    pub annihilates : Annihilates m b.width (b.bits proposal) subkey
    pub same_subkey : trial.polynomial.subkey ≡ subkey
    pub same_proposal : trial.polynomial.coefficients ≡ proposal
    pub counted : trial.weight ≡ ones_below b.width (b.bits proposal)

  -- accepted, or refused exactly for want of room or where the proposal does not annihilate the subkey
  abbrev pub TriesProposal : K → Result (Trial K b m) Refusal → Type 0
  TriesProposal proposal (Ok trial) = Accepts proposal trial
  TriesProposal proposal (Err refusal) =
      IsRefusedFor refusal DoesNotAnnihilate (Annihilates m b.width (b.bits proposal) subkey → ⊥)

  -- This proposal is the product of the conjugate factors, whose highest coefficient, a one, is not stored.
  pub record IsMade (proposal : K) : Type 0 where
    pub has_room : b.width ≤ room
    pub product : coefficient_list m b.width (b.bits proposal) ++ m.one ∷ [] ≡ conjugates m subkey b.width

  -- made, or refused exactly for want of room or where some coefficient of the product is neither zero nor one
  abbrev pub Makes : Result K Refusal → Type 0
  Makes (Ok proposal) = IsMade proposal
  Makes (Err refusal) = IsRefusedFor refusal NotBinary (SomeNeither m (conjugates m subkey b.width))

  -- the maker's polynomial, accepted for this subkey; refused as the maker refuses
  abbrev pub MakesAccepted : Result (Accepted K b m) Refusal → Type 0
  MakesAccepted (Ok accepted) = (accepted.subkey ≡ subkey) × IsMade accepted.coefficients
  MakesAccepted (Err refusal) = Makes (Err refusal)

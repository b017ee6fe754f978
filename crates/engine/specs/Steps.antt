-- What a call makes of a whole step engine: its two blocks afterwards.
use Rattle.std.specs.Prelude.{◌≡◌}
use Rattle.field.specs.declared.block.Block.{Block}
use Rattle.engine.specs.Hashing.{hash_step}
use Rattle.engine.specs.declared.step.Step.{Step}

-- the engine with another value
abbrev pub with_value : Step → Block → Step
with_value engine value = record { subkey = engine.subkey; value = value }

-- (T + P)·H stands where T stood
abbrev pub StepAbsorbs : Step → Block → Step → Type 0
StepAbsorbs before block after =
    after ≡ with_value before (hash_step before.subkey before.value block)

-- the new value stands where T stood
abbrev pub StepResumes : Step → Block → Step → Type 0
StepResumes before value after = after ≡ with_value before value

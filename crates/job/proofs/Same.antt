-- Jobs that hold the same are the same.
use Rattle.std.proofs.Common.{◌≡◌, ◌≤◌, refl}
use mathlib.Core.HLevel.{is_prop→PathP, hedberg}
use native.Mathlib.Bridge.{le_prop}
use Rattle.message.specs.declared.part.Part.{Part}
use Rattle.message.specs.declared.part.Part.TheVariants.{Header, Body}
use Rattle.job.specs.declared.header_job.HeaderJob.{HeaderJob}
use Rattle.job.specs.declared.body_job.BodyJob.{BodyJob}

same_part : (p q : Part) → Dec (p ≡ q)
same_part Header Header = yes refl
same_part Header Body = no (λ e. cc)
same_part Body Header = no (λ e. cc)
same_part Body Body = yes refl

module _ {E : Type 0} where
  pub same_header : (u v : HeaderJob E) → u.buffer ≡ v.buffer → u ≡ v
  same_header u v e i = record {
    buffer = e i;
    taking = is_prop→PathP (λ j. (e j).part ≡ Header) (λ j. hedberg same_part (e j).part Header) u.taking v.taking i;
  }

  pub same_body : (u v : BodyJob E) → u.buffer ≡ v.buffer → u.header ≡ v.header → u ≡ v
  same_body u v e n i = record {
    buffer = e i;
    header = n i;
    taking = is_prop→PathP (λ j. (e j).part ≡ Body) (λ j. hedberg same_part (e j).part Body) u.taking v.taking i;
    short = is_prop→PathP (λ j. n j ≤ 65535) (λ j. le_prop) u.short v.short i;
  }

use Rattle.std.proofs.Common.{◌≡◌, ℕ, suc, ◌+◌, ◌*◌, ◌≤◌, true, List, length, take, drop, subst, sym, refl, ap, ◌∙◌, ap₂, add-one, arith, ◌-◌}
use Rattle.std.proofs.lemmas.List.{length-drop, take_rest, drop-drop}
use Rattle.std.proofs.lemmas.Result.{err_from_is_err_and}
use Rattle.format.specs.Faults.{Predecessor, is_size_good, kind_in, data_in, as_predecessor, predecessor_at, block_at, fault_of}
use Rattle.reading.specs.Records.{ParsesRecord, IsItemOf}
use Rattle.reading.specs.Readers.{refusal_at}
use Rattle.reading.specs.Shapes.{predecessor_of, shape_as_predecessor}
use Rattle.reading.specs.declared.reader.Reader.{Reader}
use Rattle.reading.specs.declared.record.Item.{Item}
use Rattle.reading.specs.Scanning.{Reached}
use Rattle.reading.proofs.Gathering.{as_scan, reach_more}
use Rattle.reading.proofs.Joining.{adds_to_both}
use Rattle.reading.proofs.Places.{wrong_block}
use Rattle.reading.proofs.reader.Reader.next.Goals as goal

-- what is left of the file
abbrev left_of : Reader → List ℕ
left_of r = take (length r.file.now - 512 * r.place) (drop (512 * r.place) r.file.now)

-- the block that was cut off it
module _ (r : Reader) (block : List ℕ) (cut : block ≡ take 512 (left_of r)) (enough : 512 ≤ length (left_of r)) where
  abbrev file : List ℕ
  file = r.file.now

  abbrev k : ℕ
  k = r.place

  rest : left_of r ≡ drop (512 * k) file
  rest = take_rest file (512 * k)

  is_block : block ≡ block_at file k
  is_block = cut ∙ ap (take 512) rest

  whole : 512 * suc k ≤ length file
  whole = omega (arith, ap length rest, length-drop (512 * k) file, enough)

  -- what is wrong with it is what is wrong at its place
  wrong : is_size_good file ≡ true → refusal_at file k ≡ fault_of k (predecessor_of r.last) block
  wrong good =
      let before : predecessor_of r.last ≡ predecessor_at file k = λ i. record { kind = r.kind i; used = r.used i } in
      wrong_block file k good (omega (arith, whole)) ∙ sym (ap₂ (fault_of k) before is_block)

  next_predecessor : (p : Predecessor) → p ≡ as_predecessor block → p ≡ predecessor_at file (k + 1)
  next_predecessor p said = said ∙ ap as_predecessor is_block ∙ sym (ap (predecessor_at file) (add-one k))

-- the record that was read of what is left is that of its place
taken : (file : List ℕ) (k : ℕ) (i : Item)
    → ParsesRecord (take (length file - 512 * k) (drop (512 * k) file)) i.record i.rest.now → IsItemOf file k i
taken file k i parsed =
    let rest = take_rest file (512 * k) in
    let next : 512 * k + 512 ≡ 512 * suc k = omega arith in
    record {
      kind = parsed.kind ∙ ap (λ (xs : List ℕ). kind_in (take 512 xs)) rest;
      bytes = parsed.bytes ∙ ap (λ (xs : List ℕ). data_in (take 512 xs)) rest;
      after = parsed.after ∙ ap (drop 512) rest ∙ drop-drop 512 (512 * k) file ∙ ap (λ (n : ℕ). drop n file) next;
    }

pub returns-in_err-shape-clause-read : goal.returns-in_err-shape-clause-read
returns-in_err-shape-clause-read c =
    let self = c.args.self.now in
    let came = err_from_is_err_and c.from_residual.result c.from_residual.ensures.1 in
    let cut = c.in-Some.ensures.cases in
    rw (came.1, came.2)
    record {
      why = wrong self c.in-Some.block.now cut.same cut.enough (sym c.if-not-is_size_good.ensures) ∙ c.in_err-shape.ensures;
      stays = refl;
    }

pub returns-in_err-shape-clause-scan : goal.returns-in_err-shape-clause-scan
returns-in_err-shape-clause-scan c =
    let self = c.args.self.now in as_scan self self c.from_residual.result (returns-in_err-shape-clause-read c)

pub invariant_of-self : goal.invariant_of-self
invariant_of-self c =
    let self = c.args.self.now in
    let block : List ℕ = c.in-Some.block.now in
    let cut = c.in-Some.ensures.cases in
    let shape = shape_as_predecessor c.in_ok-shape.shape in
    let said = next_predecessor self block cut.same cut.enough shape c.in_ok-shape.ensures.shape in
    let long = whole self block cut.same cut.enough in
    record {
      within = omega (arith, long);
      kind = ap (λ (p : Predecessor). p.kind) said;
      used = ap (λ (p : Predecessor). p.used) said;
      reached =
          subst (Reached self.file.now) (sym (add-one self.place))
          (reach_more self.file.now self.place self.reached
          (wrong self block cut.same cut.enough (sym c.if-not-is_size_good.ensures) ∙ c.in_ok-shape.ensures.sound) long);
    }

pub returns-clause-read : goal.returns-clause-read
returns-clause-read c =
    let self = c.args.self.now in
    let block : List ℕ = c.in-Some.block.now in
    let cut = c.in-Some.ensures.cases in
    let item : Item = record { «record» = c.parse.result.0; rest = c.parse.result.1 } in
    record {
      sound = wrong self block cut.same cut.enough (sym c.if-not-is_size_good.ensures) ∙ c.in_ok-shape.ensures.sound;
      within = whole self block cut.same cut.enough;
      item = taken self.file.now self.place item c.parse.ensures;
      moves = add-one self.place;
    }

pub returns-clause-joins : goal.returns-clause-joins
returns-clause-joins c =
    let self = c.args.self.now in
    let item : Item = record { «record» = c.parse.result.0; rest = c.parse.result.1 } in
    adds_to_both self.file.now self.place item (taken self.file.now self.place item c.parse.ensures)

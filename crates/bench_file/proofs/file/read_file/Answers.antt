use Rattle.std.proofs.Common.{refl, inl, inr, arith}
use Rattle.lexer.specs.Names.{line_of}
use Rattle.bench_file.specs.Files.{lines}
use Rattle.bench_file.proofs.Exactly.{exact}
use Rattle.bench_file.proofs.Samples.{some_bytes, no_bytes_are, count_small, count_some, asked, named, refused_top, refused_samples, wrong_sample, wrong_extra, all_right, masks_say, lost_say}
use Rattle.bench_file.proofs.file.read_file.Goals as goal

pub returns-then-bytes-gt-LONGEST : goal.returns-then-bytes-gt-LONGEST
returns-then-bytes-gt-LONGEST c = record { outcome = inl (c.if-bytes-gt-LONGEST.true, refl); exact = exact _ }

pub returns-in_err-top : goal.returns-in_err-top
returns-in_err-top c =
    record { outcome = refused_top _ _ _ c.if-bytes-gt-LONGEST.false c.from_residual.ensures.1 c.in_err-top.ensures; exact = exact _ }

pub read_samples-requires : goal.read_samples-requires
read_samples-requires c =
    let t = c.in_ok-top.ensures in
    let s = t.small in
    let l = line_of c.in_ok-top.top.names in
    record {
      few = (omega (arith, s), omega (arith, s), omega (arith, s));
      some = (omega (arith, c.count.ensures, count_some l), omega (arith, c.count.ensures, count_small l));
    }

pub returns-in_err-rest : goal.returns-in_err-rest
returns-in_err-rest c =
    let ls = lines c.args.bytes.now in
    let top = c.in_ok-top.top in
    let t = c.in_ok-top.ensures in
    let n = asked ls top t in
    let k = named ls top c.count.result t c.count.ensures in
    let b = c.in_err-rest.ensures in
    let w = wrong_sample ls _ _ _ t.rest n k t.right t.good b.0 b.1.1 in
    record { outcome = refused_samples _ _ _ _ c.if-bytes-gt-LONGEST.false c.from_residual-in_err-rest.ensures.1 b.1.0 w; exact = exact _ }

pub returns-then-not-is_empty : goal.returns-then-not-is_empty
returns-then-not-is_empty c =
    let ls = lines c.args.bytes.now in
    let top = c.in_ok-top.top in
    let t = c.in_ok-top.ensures in
    let n = asked ls top t in
    let k = named ls top c.count.result t c.count.ensures in
    let w = wrong_extra ls _ _ _ t.rest n k t.right t.good _ _ c.in_ok-rest.rest.now c.in_ok-rest.ensures (some_bytes _ _ c.if-not-is_empty.true c.is_empty.ensures) in
    record { outcome = inr (c.if-bytes-gt-LONGEST.false, w); exact = exact _ }

pub returns : goal.returns
returns c =
    let ls = lines c.args.bytes.now in
    let top = c.in_ok-top.top in
    let t = c.in_ok-top.ensures in
    let n = asked ls top t in
    let k = named ls top c.count.result t c.count.ensures in
    let s = c.in_ok-rest.ensures in
    let rest = c.in_ok-rest.rest.now in
    let masks = c.read_samples.new.masks in
    let lost = c.read_samples.new.lost in
    record {
      outcome = (
        record {
          short = c.if-bytes-gt-LONGEST.false;
          right = all_right ls _ _ _ t.rest n k t.right masks lost rest s (no_bytes_are _ _ c.if-not-is_empty.false c.is_empty.ensures);
          named = t.good;
        },
        record {
          stem = t.stem;
          cycle = t.cycle;
          rule = t.rule;
          names = t.names;
          size = (c.read_samples.auto.masks, c.read_samples.auto.lost);
          masks = masks_say ls _ _ _ t.rest n k masks lost rest s;
          lost = lost_say ls _ _ _ t.rest n k masks lost rest s;
        },
      );
      exact = exact _;
    }

use Rattle.std.proofs.Common.{Some, None}
use Rattle.std.proofs.lemmas.Bool.Decides.{Decides-eqb}
use Rattle.std.proofs.lemmas.Slice.Eq.{strip_suffix_is}
use Rattle.logos_rust_file.proofs.PathLemmas.{ends_here, no_end}
use Rattle.logos_rust_file.proofs.paths.ends_with_path.Goals as goal

pub returns-in-Some : goal.returns-in-Some
returns-in-Some c =
    let cases = rw (c.as_bytes.ensures.value, c.as_bytes-2.ensures.value) at c.in-Some.ensures.cases in
    ends_here c.args.path.now c.args.end.now c.in-Some.front.now c.ends_with.result (strip_suffix_is Decides-eqb c.args.path.now c.args.end.now (Some c.in-Some.front) cases) c.ends_with.ensures.value

pub returns-in-None : goal.returns-in-None
returns-in-None c =
    let cases = rw (c.as_bytes.ensures.value, c.as_bytes-2.ensures.value) at c.in-None.ensures.cases in
    no_end c.args.path.now c.args.end.now (strip_suffix_is Decides-eqb c.args.path.now c.args.end.now None cases)

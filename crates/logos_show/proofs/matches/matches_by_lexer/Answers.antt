use Rattle.logos_show.proofs.matches.matches_by_lexer.Goals as goal

pub returns-then-is_json-clause-printed : goal.returns-then-is_json-clause-printed
returns-then-is_json-clause-printed g c = rw c.if-is_json.true c.write_match_records.ensures.printed

pub returns-else-is_json-clause-printed : goal.returns-else-is_json-clause-printed
returns-else-is_json-clause-printed g c = rw c.if-is_json.false c.write_matches.ensures.printed

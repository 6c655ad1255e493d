use Rattle.logos_laws.proofs.lexemes.OpeningTexts.{block_bang, block_doc, block_other, byte_character, byte_string, c_string, empty_block, escape, four_slashes, line_bang, line_doc, line_other, numbers, raw_bytes, raw_c, raw_text, string, three_stars}
use Rattle.logos_laws.proofs.lexemes.openings_by_text.Goals as goal

pub returns-clause-numbers : goal.returns-clause-numbers
returns-clause-numbers c = numbers

pub returns-clause-strings : goal.returns-clause-strings
returns-clause-strings c = (string, byte_string, c_string)

pub returns-clause-raw_strings : goal.returns-clause-raw_strings
returns-clause-raw_strings c = (raw_text, raw_bytes, raw_c)

pub returns-clause-characters : goal.returns-clause-characters
returns-clause-characters c = (byte_character, escape)

pub returns-clause-lines : goal.returns-clause-lines
returns-clause-lines c = (line_bang, line_doc, four_slashes, line_other)

pub returns-clause-blocks : goal.returns-clause-blocks
returns-clause-blocks c = (block_bang, block_doc, three_stars, empty_block, block_other)

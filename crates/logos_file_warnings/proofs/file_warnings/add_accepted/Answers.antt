use Rattle.logos_file_warnings.proofs.file_warnings.add_accepted.Goals as goal

pub returns : goal.returns
returns c = record { own = c.in_ok-warnings.warnings.items; are = c.in_ok-warnings.ensures; is = c.in_ok-add_warnings.ensures }

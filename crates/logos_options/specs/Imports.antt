-- Definitions that contracts cite: those of lower crates, and those of this crate that name none of
-- its types.
pub use Rattle.logos_host.specs.Failures.{IsNoMisuse, IsOutputFailure, status_of}
pub use Rattle.std.specs.List.{list_all}
pub use Rattle.logos_options.specs.ArgumentSteps.{OptionValue, begins_option, option_value, split_at_equals, step, step_value, use_value, with_assigned, with_option, with_written}
pub use Rattle.logos_options.specs.Arguments.{arguments_of, arguments_value, nothing_given, settings_value, settled, with_found, with_path, with_question, with_role, with_setting, with_word, with_arguments}
pub use Rattle.logos_options.specs.Commits.{commit_line, is_commit_line, is_hex_digit}
pub use Rattle.logos_options.specs.Options.{is_named, named_in, number, option_named, role_of, row_value, takes_value, word_of}
pub use Rattle.logos_options.specs.Paths.{found_path, next_paths, next_progress, path_named, paths_of, texts_of}
pub use Rattle.logos_options.specs.Programs.{cli_takes, show_takes}
pub use Rattle.logos_options.specs.Styles.{color_given, format_given, style_given}
pub use Rattle.logos_options.specs.WholeOptions.{AreApart, AreSettled, AreWhole}

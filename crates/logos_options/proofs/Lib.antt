mod OrderLemmas
mod SettingLemmas
mod SplitLemmas
mod WordLemmas

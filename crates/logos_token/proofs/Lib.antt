pub mod reading
pub mod values
pub mod printing
pub mod NearLemmas

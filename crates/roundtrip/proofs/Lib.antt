pub mod JudgedBack
pub mod SameBack
pub mod RoundTrip

mod Ends
mod Found
mod Made
mod Told
